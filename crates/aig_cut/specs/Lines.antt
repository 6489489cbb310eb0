-- The text of cuts (our own choice): one line per cut, with an LF after it.
-- Example: `f 6/c 0/`: the latch or gate of literal 6 is free, and constraint 0 is not demanded.
use Rattle.std.specs.Prelude.{◌≡◌, ◌≢◌, ◌⊎◌, ℕ, ◌+◌, ◌<◌, List, [], ◌∷◌, ◌++◌, length, codes, decimal, flat_map, All}
use Rattle.aig_parts.specs.declared.raw.Raw.{Raw}
use Rattle.aig_parts.specs.Formed.{limit}
use Rattle.aig_cut.specs.declared.fault.CutFault.{CutFault}
use Rattle.aig_cut.specs.declared.fault.CutFault.TheVariants as faults
use Rattle.aig_cut.specs.declared.line.Cut.{Cut}
use Rattle.aig_cut.specs.declared.line.Cut.TheVariants as cut
use Rattle.aig_cut.specs.CutOf.{cut_of}
use Rattle.aig_cut.specs.Cuts.{IsCutIn, named_by}

abbrev pub cut_line : Cut → List ℕ
cut_line (cut.Free l) = codes "f " ++ decimal l
cut_line (cut.Start l) = codes "r " ++ decimal l
cut_line (cut.Constraint p) = codes "c " ++ decimal p

abbrev pub cuts_text : List Cut → List ℕ
cuts_text cuts = flat_map (λ c. cut_line c ++ 10 ∷ []) cuts

-- the text is that of these cuts, and the circuit has each
pub record AreCuts (raw : Raw) (text : List ℕ) (cuts : List Cut) : Type 0 where
  pub spelled : text ≡ cuts_text cuts
  pub each : All (IsCutIn raw) cuts

-- x is the circuit, cut as the text says
pub record IsCutBy (raw : Raw) (text : List ℕ) (x : Raw) : Type 0 where
  pub cuts : List Cut
  pub cuts_are : AreCuts raw text cuts
  pub is : x ≡ cut_of (named_by cuts) raw

-- Line n of the text, counted from 1, is the first that is no cut of the circuit: those before it are cuts, and what
-- comes then begins with none.
pub record IsFirstWrong (raw : Raw) (text : List ℕ) (n : ℕ) : Type 0 where
  pub before : List Cut
  pub rest : List ℕ
  pub spelled : text ≡ cuts_text before ++ rest
  pub each : All (IsCutIn raw) before
  pub number : n ≡ length before + 1
  pub more : rest ≢ []
  pub wrong : (c : Cut) (after : List ℕ) → IsCutIn raw c → rest ≢ cut_line c ++ 10 ∷ after

-- the parts are over the limit of variables, or of inputs
abbrev pub IsOverLimit : Raw → Type 0
IsOverLimit x = (limit < x.max_var) ⊎ (limit < length x.inputs)

-- why there is no cut circuit; out of memory may come in any case
abbrev pub RefusesCut : Raw → List ℕ → CutFault → Type 0
RefusesCut raw text (faults.Line n) = IsFirstWrong raw text n
RefusesCut raw text faults.Limit = (x : Raw) × IsCutBy raw text x × IsOverLimit x
RefusesCut raw text faults.Memory = Unit {0}
