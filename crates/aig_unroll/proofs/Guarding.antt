-- When there are guards.
use Rattle.std.proofs.Common.{◌≡◌, ℕ, ◌<◌, nat_lt, Bool, true, false, ◌&&◌, length, refl, arith}
use Rattle.std.proofs.lemmas.Bool.Decides.{nat_tests}
use Rattle.aig_parts.specs.declared.raw.Raw.{Raw}
use Rattle.aig_unroll.specs.FrameLiteral.{has_guards, chain_count, guard_count}

-- with guards, a chain gate a constraint and a guard gate a bad literal
pub record AreGuarded (raw : Raw) : Type 0 where
  pub on : has_guards raw ≡ true
  pub chain : chain_count raw ≡ length raw.constraints
  pub guards : guard_count raw ≡ length raw.bad
  pub bad : 0 < length raw.bad
  pub constraints : 0 < length raw.constraints

pub guarded : (raw : Raw) → has_guards raw ≡ true → AreGuarded raw
guarded raw on =
    let (bad, constraints) = both (nat_lt 0 (length raw.bad)) refl (nat_lt 0 (length raw.constraints)) refl on in
    record { on = on; chain = rw on refl; guards = rw on refl; bad = bad; constraints = constraints }
  where
    both : (a : Bool) → nat_lt 0 (length raw.bad) ≡ a → (b : Bool) → nat_lt 0 (length raw.constraints) ≡ b
        → (a && b) ≡ true → (0 < length raw.bad) × (0 < length raw.constraints)
    both true e true f h = (grind (arith, nat_tests), grind (arith, nat_tests))
    both true e false f h = cc
    both false e b f h = cc

pub guarded_by_chain : (raw : Raw) (c : ℕ) → c < chain_count raw → AreGuarded raw
guarded_by_chain raw c lt = go (has_guards raw) refl
  where
    go : (b : Bool) → has_guards raw ≡ b → AreGuarded raw
    go true e = guarded raw e
    go false e = let k : c < 0 = rw e at lt in absurd (omega arith)

pub guarded_by_guard : (raw : Raw) (p : ℕ) → p < guard_count raw → AreGuarded raw
guarded_by_guard raw p lt = go (has_guards raw) refl
  where
    go : (b : Bool) → has_guards raw ≡ b → AreGuarded raw
    go true e = guarded raw e
    go false e = let k : p < 0 = rw e at lt in absurd (omega arith)
