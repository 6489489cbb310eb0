-- Bytes that a buffer holds, and those that a reader has left.
use Rattle.std.specs.Prelude.{◌≡◌, ◌<◌, ℕ, ◌-◌, Bool, false, List, [], Option, Some, None, take, drop}
use Rattle.std.specs.Prelude.{IfErr, IfOk, IsTrue, Result}
use Rattle.aig_format.specs.declared.reader.token_fault.TokenFault.{TokenFault}
use Rattle.aig_format.specs.declared.reader.token_fault.TokenFault.TheVariants.{Io}

-- how many bytes are read at once
abbrev pub room : ℕ
room = 32768

-- the bytes from start to end
abbrev pub held : ℕ → ℕ → List ℕ → List ℕ
held start end buffer = take (end - start) (drop start buffer)

-- the reader reports its bytes
abbrev pub AreKnownBytes : Option (List ℕ) → Type 0
AreKnownBytes None = ⊥
AreKnownBytes (Some bytes) = Unit {0}

abbrev pub known : Option (List ℕ) → List ℕ
known None = []
known (Some bytes) = bytes

-- whether a byte is held: if not, there is none, and that is remembered; or a read failed
pub record IsReady (start end : ℕ) (ended : Bool) (left : Option (List ℕ)) (ready : Result Bool TokenFault) : Type 0 where
  pub some : IfOk ready (λ is. IsTrue is → start < end)
  pub none : IfOk ready (λ is. is ≡ false → (start ≡ end) × (known left ≡ []))
  pub remembered : IfOk ready (λ is. is ≡ false → IsTrue ended)
  pub io : IfErr ready (λ fault. fault ≡ Io)
