-- How the program holds what a line names of a section: numbers of its signals.
use Rattle.std.specs.Prelude.{◌≡◌, ℕ, zero, suc, ◌<◌, ◌≤◌, ◌==◌, Bool, false, slice_index, List, [], ◌∷◌, length}
use Rattle.std.specs.Prelude.{Contains, Option, Some, slice_get}
use Rattle.aig_parts.specs.declared.ternary.Tern.{Tern}
use Rattle.aig_signals.specs.declared.signal.Signal.{Signal}

-- signals one after the other, from position a up to position b
unfoldable pub AreNeighbours : ℕ → List Signal → ℕ → Type 0
AreNeighbours a [] b = a ≡ b
AreNeighbours a (signal ∷ more) b = (signal.first ≡ a) × (signal.first < signal.end) × AreNeighbours signal.end more b

-- the entry at position p is one of the signal at number k
pub record IsEntryOf (signals : List Signal) (k p : ℕ) : Type 0 where
  pub signal : Signal
  pub here : slice_get signals k ≡ Some signal
  pub from : signal.first ≤ p
  pub to : p < signal.end

-- an entry of it has a value
pub record IsValued (signals : List Signal) (values : List (Option Tern)) (k : ℕ) : Type 0 where
  pub position : ℕ
  pub value : Tern
  pub entry : IsEntryOf signals k position
  pub here : slice_get values position ≡ Some (Some value)

-- the numbers of the signals of which an entry has a value
pub record AreNamed (signals : List Signal) (values : List (Option Tern)) (named : List ℕ) : Type 0 where
  pub each : (k : ℕ) → IsValued signals values k → Contains named k
  pub only : (k : ℕ) → Contains named k → IsValued signals values k

pub record IsNaming (signals : List Signal) (values : List (Option Tern)) (named : List ℕ) : Type 0 where
  pub neighbours : AreNeighbours 0 signals (length values)
  pub numbers : AreNamed signals values named

-- whether the number at a place is the same as the one before it
abbrev pub is_repeated : List ℕ → ℕ → Bool
is_repeated named zero = false
is_repeated named (suc k) = slice_index named k == slice_index named (suc k)
