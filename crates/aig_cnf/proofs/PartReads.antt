-- What a part reads, as its marks say.
use Rattle.std.proofs.Common.{◌≡◌, ℕ, Bool, true, List, map, Contains, Some, slice_get, option_map, sym, ◌∙◌, ap}
use Rattle.std.proofs.lemmas.Option.{slice_get-map}
use Rattle.aig_parts.specs.Literal.{variable}
use Rattle.aig_parts.specs.declared.gate.Gate.{Gate}
use Rattle.aig_parts.specs.declared.latch.Latch.{Latch}
use Rattle.aig_parts.specs.declared.raw.Raw.{Raw}
use Rattle.aig_base.specs.Part as read
use Rattle.aig_base.specs.Part.{TestsRead}
use Rattle.aig_base.proofs.lists.Positions.{position_of}

pub marked_at : {A : Type 0} (f : A → Bool) (xs : List A) (i : ℕ) (x : A) → slice_get xs i ≡ Some x → f x ≡ true
    → slice_get (map f xs) i ≡ Some true
marked_at f xs i x at e = slice_get-map f xs i ∙ ap (option_map f) at ∙ ap Some e

pub marked_is : {A : Type 0} (f : A → Bool) (xs : List A) (i : ℕ) (x : A) (b : Bool) → slice_get xs i ≡ Some x
    → slice_get (map f xs) i ≡ Some b → f x ≡ b
marked_is f xs i x b at m =
    let e : Some (f x) ≡ Some b = sym (slice_get-map f xs i ∙ ap (option_map f) at) ∙ m in cc

module _ (raw : Raw) (bad : ℕ) (test : ℕ → Bool) (exact : TestsRead raw bad test) where
  -- what the gates and latches read that are read is read
  pub reads_first : (q : ℕ) (g : Gate) → slice_get raw.gates q ≡ Some g → test (variable g.lhs) ≡ true → test (variable g.rhs0) ≡ true
  reads_first q g at e = (exact (variable g.rhs0)).1 (read.first q g at ((exact (variable g.lhs)).0 e))

  pub reads_second : (q : ℕ) (g : Gate) → slice_get raw.gates q ≡ Some g → test (variable g.lhs) ≡ true → test (variable g.rhs1) ≡ true
  reads_second q g at e = (exact (variable g.rhs1)).1 (read.second q g at ((exact (variable g.lhs)).0 e))

  pub reads_next : (p : ℕ) (x : Latch) → slice_get raw.latches p ≡ Some x → test (variable x.lit) ≡ true → test (variable x.next) ≡ true
  reads_next p x at e = (exact (variable x.next)).1 (read.next p x at ((exact (variable x.lit)).0 e))

  pub reads_bad : test (variable bad) ≡ true
  reads_bad = (exact (variable bad)).1 read.property

  pub reads_constraint : (c : ℕ) → Contains raw.constraints c → test (variable c) ≡ true
  reads_constraint c has =
      let (i, at) = position_of raw.constraints c has in (exact (variable c)).1 (read.constraint i c at)
