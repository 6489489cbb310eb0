-- How often gates are evaluated when each is evaluated once a frame.
use Rattle.std.proofs.Common.{◌≡◌, ℕ, ◌+◌, ◌*◌, arith}

pub none_yet : (n gates : ℕ) → n ≡ n + gates * 0
none_yet n gates = omega arith

pub once_more : (gates frame start before after : ℕ) → before ≡ start + gates * frame → after ≡ before + gates
    → after ≡ start + gates * (frame + 1)
once_more gates frame start before after b a = grind arith
