-- Lines frame by frame, from the last one down: what they name explains the literals that were asked for (our own
-- choice).
use Rattle.std.specs.Prelude.{◌≡◌, ◌≢◌, ℕ, zero, suc, List, [], ◌∷◌, length, Contains, Some, slice_get}
use Rattle.aig_parts.specs.declared.latch.Latch.{Latch}
use Rattle.aig_parts.specs.declared.raw.Raw.{Raw}
use Rattle.aig_parts.specs.declared.ternary.Tern.{Tern}
use Rattle.aig_parts.specs.declared.ternary.Tern.TheVariants.{X}
use Rattle.aig_causes.specs.Causes.{Agree, Explain, Has, IsMoment, Moment, Sources}

-- the same run at the next frame
abbrev pub next : Moment → Moment
next m = record m { frame = suc m.frame }

-- the same run some frames later
unfoldable pub later : Moment → ℕ → Moment
later m zero = m
later m (suc k) = later (next m) k

-- from this frame on, each of the inputs of a frame that is 0 or 1 in m has the same value in n
unfoldable pub AgreeOnInputs : Raw → Moment → Moment → List (List ℕ) → Type 0
AgreeOnInputs raw m n [] = Unit {0}
AgreeOnInputs raw m n (inputs ∷ rest) =
    Agree raw (record { inputs = inputs; latches = [] }) m n × AgreeOnInputs raw (next m) (next n) rest

-- What is named at a frame, and the inputs of the frames after it, up to the last: a literal that is 0 or 1 at the last
-- frame has the same value in each run that has the named values, whatever the others are.
abbrev pub ExplainTogether : Raw → Moment → Sources → List (List ℕ) → ℕ → Type 0
ExplainTogether raw m sources rest l =
    (w : Tern) → w ≢ X → Has raw (later m (length rest)) l w
    → (n : Moment) → IsMoment raw (later n (length rest)) → Agree raw sources m n
    → AgreeOnInputs raw (next m) (next n) rest
    → Has raw (later n (length rest)) l w

-- each of these latches of the next frame is explained by what is named at this one
abbrev pub ExplainLatches : Raw → Moment → Sources → List ℕ → Type 0
ExplainLatches raw m sources latches =
    (p : ℕ) (x : Latch) → Contains latches p → slice_get raw.latches p ≡ Some x → Explain raw m sources x.next

-- a frame more: what is named there explains the latches that are named at the frame after it
abbrev pub GoesDown : Raw → Type 0
GoesDown raw =
    (m : Moment) (here after : Sources) (rest : List (List ℕ)) (l : ℕ) → ExplainLatches raw m here after.latches
    → ExplainTogether raw (next m) after rest l → ExplainTogether raw m here (after.inputs ∷ rest) l
