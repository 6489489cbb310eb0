-- A model that is strengthened by a certificate (our own choice). The certificate claims of the model's runs that none
-- of its properties is ever 1 and each of its constraints always is. The strengthened circuit is the model with the
-- certificate's own inputs and latches, with all its gates, and with one bad state property: the model's is 1, or a
-- claim is broken.
use Rattle.std.specs.Prelude.{◌≡◌, ℕ, ◌+◌, ◌*◌, ◌==◌, nat_lt, if◌then◌else◌, List, [], ◌∷◌, ◌++◌, length, map, take}
use Rattle.std.specs.Prelude.{count_by, is_none, Option, Some, None, option_map, slice_get}
use Rattle.std.specs.List.{filter_map, range_with_len}
use Rattle.aig_parts.specs.declared.gate.Gate.{Gate}
use Rattle.aig_parts.specs.declared.latch.Latch.{Latch}
use Rattle.aig_parts.specs.declared.raw.Raw.{Raw}
use Rattle.aig_parts.specs.declared.symbols.Kind.{Kind}
use Rattle.aig_parts.specs.declared.symbols.Kind.TheVariants.{Input, Latch as Latches, Output, Bad, Constraint}
use Rattle.aig_parts.specs.Literal.{negation}
use Rattle.aig_parts.specs.SymbolPlaces.{Key}
use Rattle.aig_base.specs.Renumbered.{ready_gate, relabelled_latch}
use Rattle.aig_certificate.specs.Shared.{Meanings, AreMeanings}

-- ---- what a literal of the certificate is in the strengthened circuit

-- the entries that stand for nothing
unfoldable pub own : {A : Type 0} → List (Option ℕ) → List A → List A
own [] xs = []
own (m ∷ ms) [] = []
own (Some l ∷ ms) (x ∷ xs) = own ms xs
own (None ∷ ms) (x ∷ xs) = x ∷ own ms xs

-- the literals that the certificate defines and the model does not
abbrev pub own_literals : Meanings → Raw → List ℕ
own_literals meanings certificate =
    own meanings.inputs certificate.inputs ++ map (λ x. x.lit) (own meanings.latches certificate.latches)
    ++ map (λ g. g.lhs) certificate.gates

-- the literals of so many variables after this one
abbrev pub literals_after : ℕ → ℕ → List ℕ
literals_after v n = map (λ u. 2 * u) (range_with_len (v + 1) n)

-- Constants are themselves, a shared entry is what it stands for, and the others get the variables behind the model's;
-- negations are kept.
pub record IsTranslation (model certificate : Raw) (meanings : Meanings) (literal : ℕ → ℕ) : Type 0 where
  pub constant : literal 0 ≡ 0
  pub sign : (l : ℕ) → literal (negation l) ≡ negation (literal l)
  pub inputs : (p l m : ℕ) → slice_get certificate.inputs p ≡ Some l → slice_get meanings.inputs p ≡ Some (Some m)
      → literal l ≡ m
  pub latches : (p m : ℕ) (x : Latch) → slice_get certificate.latches p ≡ Some x
      → slice_get meanings.latches p ≡ Some (Some m) → literal x.lit ≡ m
  pub new : map literal (own_literals meanings certificate)
      ≡ literals_after model.max_var (length (own_literals meanings certificate))

-- ---- the parts of the bad state property: what is to be 0 at each frame

-- the certificate's properties: its bad literals, or its outputs where it has none
abbrev pub properties : Raw → List ℕ
properties certificate = if nat_lt 0 (length certificate.bad) then certificate.bad else certificate.outputs

-- literals that are 1 where a claim is broken: the properties, and the negations of the certificate's constraints
abbrev pub claims : Raw → (ℕ → ℕ) → List ℕ
claims certificate literal =
    map literal (properties certificate) ++ map (λ c. negation (literal c)) certificate.constraints

-- gates from variable v on, each the AND of a negated part and of the gate before it; the first has `l` in its place
unfoldable pub chain : ℕ → ℕ → List ℕ → List Gate
chain v l [] = []
chain v l (part ∷ parts) = ready_gate (2 * v) (negation part) l ∷ chain (v + 1) (2 * v) parts

-- the last of these gates' literals, or `l` where there is none
unfoldable pub chain_end : ℕ → ℕ → List ℕ → ℕ
chain_end v l [] = l
chain_end v l (part ∷ parts) = chain_end (v + 1) (2 * v) parts

-- ---- symbols

-- the position of an own entry, where the model has n entries: behind those, as many as there are own ones before it
abbrev pub own_position : ℕ → List (Option ℕ) → ℕ → ℕ
own_position n ms p = n + count_by is_none (take p ms)

-- an own entry at its new position; a shared entry is gone
abbrev pub own_entry : Kind → ℕ → List (Option ℕ) → ℕ → Option Key
own_entry kind n ms p = entry (slice_get ms p)
  where
    entry : Option (Option ℕ) → Option Key
    entry (Some None) = Some (kind, own_position n ms p)
    entry m = None

-- the entry that an entry of the model is, of which property p is asked: inputs, latches and constraints stay, and the
-- property is the first output
abbrev pub model_entry : ℕ → Kind → ℕ → Option Key
model_entry p Input q = Some (Input, q)
model_entry p Latches q = Some (Latches, q)
model_entry p Constraint q = Some (Constraint, q)
model_entry p Bad q = if q == p then Some (Output, 0) else None
model_entry p kind q = None

-- the entry that an entry of the certificate is: own inputs and latches, and outputs for its properties and constraints
abbrev pub certificate_entry : Raw → Raw → Meanings → Kind → ℕ → Option Key
certificate_entry model certificate meanings Input q = own_entry Input (length model.inputs) meanings.inputs q
certificate_entry model certificate meanings Latches q = own_entry Latches (length model.latches) meanings.latches q
certificate_entry model certificate meanings Bad q = Some (Output, 1 + q)
certificate_entry model certificate meanings Output q =
    if nat_lt 0 (length certificate.bad) then None else Some (Output, 1 + q)
certificate_entry model certificate meanings Constraint q = Some (Output, 1 + length (properties certificate) + q)
certificate_entry model certificate meanings kind q = None

-- the names at the new entries, in the same order; an entry that is gone has none
abbrev pub renamed : (Kind → ℕ → Option Key) → List (Key × List ℕ) → List (Key × List ℕ)
renamed entry symbols = filter_map (λ s. option_map (λ e. (e, s.1)) (entry s.0.0 s.0.1)) symbols

-- ---- the circuit

abbrev pub translated_gate : (ℕ → ℕ) → Gate → Gate
translated_gate literal g = record { lhs = literal g.lhs; rhs0 = literal g.rhs0; rhs1 = literal g.rhs1 }

-- bad literal b is at position p of the model; the outputs are the parts of the new bad state property
abbrev pub strengthened : Raw → ℕ → ℕ → Raw → Meanings → (ℕ → ℕ) → Raw
strengthened model p b certificate meanings literal =
    let own_variables = length (own_literals meanings certificate) in
    let broken = claims certificate literal in
    let first = model.max_var + own_variables + 1 in
    record {
      max_var = model.max_var + own_variables + length broken;
      inputs = model.inputs ++ map literal (own meanings.inputs certificate.inputs);
      latches = model.latches ++ map (relabelled_latch literal) (own meanings.latches certificate.latches);
      outputs = b ∷ broken;
      bad = negation (chain_end first (negation b) broken) ∷ [];
      constraints = model.constraints;
      justice = [];
      fairness = [];
      gates = model.gates ++ map (translated_gate literal) certificate.gates ++ chain first (negation b) broken;
      symbols = renamed (model_entry p) model.symbols
          ++ renamed (certificate_entry model certificate meanings) certificate.symbols;
      comment = None;
    }

-- it is that circuit
pub record IsStrengthened (model : Raw) (p : ℕ) (certificate x : Raw) : Type 0 where
  pub bad : ℕ
  pub bad_is : slice_get model.bad p ≡ Some bad
  pub meanings : Meanings
  pub meanings_are : AreMeanings model certificate meanings
  pub literal : ℕ → ℕ
  pub literal_is : IsTranslation model certificate meanings literal
  pub is : x ≡ strengthened model p bad certificate meanings literal
