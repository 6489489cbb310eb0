-- The bytes that a line or an entry takes determine what is read of it.
use Rattle.std.proofs.Common.{ℕ, ◌-◌, ◌*◌, List, ◌++◌, Bool, refl, ap, ◌∙◌, append_assoc}
use Rattle.aig_parts.specs.declared.gate.Gate.{Gate}
use Rattle.aig_format.specs.Delta.{delta}
use Rattle.aig_format.specs.state.Reading.{Read, EndsItself}
use Rattle.aig_format.specs.state.ReadingSections.{literal_at, latch_at, gate_at, implicit_latch_at, implicit_gate_at}
use Rattle.aig_format.proofs.Steps.{done, done_is}
use Rattle.aig_format.proofs.Numbers.{bind_then, joins}
use Rattle.aig_format.proofs.Deltas.{delta_takes, delta_again}
use Rattle.aig_format.proofs.Lines.{Takes, Again, literal_takes, literal_again, latch_takes, latch_again, gate_takes}
use Rattle.aig_format.proofs.Lines.{gate_again, implicit_latch_takes, implicit_latch_again}

-- what is spelled one way and read of it ends itself
ends : {X : Type 0} (at : ℕ → List ℕ → Read X) (line : Bool → X → List ℕ) (Fits : ℕ → X → Type 0)
    → Takes at line Fits → Again at line Fits → (v : ℕ) → EndsItself (at v)
ends at line Fits takes again v bytes rest x h =
    let t = takes v bytes x rest h in
    (line t.0 x, t.1, λ more. again v t.0 x more t.2)

pub literal_ends : EndsItself literal_at
literal_ends = ends _ _ _ literal_takes literal_again 0

pub latch_ends : EndsItself latch_at
latch_ends = ends _ _ _ latch_takes latch_again 0

pub gate_ends : EndsItself gate_at
gate_ends = ends _ _ _ gate_takes gate_again 0

pub implicit_latch_ends : (v : ℕ) → EndsItself (implicit_latch_at v)
implicit_latch_ends = ends _ _ _ implicit_latch_takes implicit_latch_again

pub implicit_gate_ends : (v : ℕ) → EndsItself (implicit_gate_at v)
unfolding implicit_gate_at
implicit_gate_ends v bytes rest x h = bind_then _ _ _ h (λ a ea h1. bind_then _ _ _ h1 (λ b eb h2.
    let made : Gate = record { lhs = 2 * v; rhs0 = 2 * v - a.0; rhs1 = 2 * v - a.0 - b.0 } in
    let p = done_is made x b.1 rest h2 in
    let t0 = delta_takes 1 (2 * v) bytes a.0 a.1 ea in
    let t1 = delta_takes 0 (2 * v - a.0) a.1 b.0 b.1 eb in
    let front = delta a.0 ++ delta b.0 in (
      front,
      joins bytes (delta a.0) a.1 (delta b.0) b.1 t0.0 t1.0 ∙ ap (λ (r : List ℕ). front ++ r) p.1,
      λ more.
          ap (implicit_gate_at v) (append_assoc (delta a.0) (delta b.0) more)
          ∙ rw (delta_again 1 (2 * v) a.0 (delta b.0 ++ more) t0.1 t0.2 t0.3, delta_again 0 (2 * v - a.0) b.0 more t1.1 t1.2 t1.3) refl
          ∙ ap (λ (y : Gate). done y more) p.0,
    )))
