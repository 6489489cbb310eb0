-- Names, values and lines that say why as JSON (RFC 8259); which members an object has is our own choice.
-- Example: latches `q[0]` and `q[1]`, which are 0 and 1, from position 3 on are
-- `{"letter":"l","position":3,"name":"q","value":"10"}`.
use Rattle.std.specs.Prelude.{ℕ, ◌-◌, ◌/◌, ◌%◌, ◌==◌, ◌||◌, nat_lt, if◌then◌else◌, List, [], ◌∷◌, ◌++◌, map, filter}
use Rattle.std.specs.Prelude.{flat_map, decimal, codes, Option}
use Rattle.std.specs.Str.{is_utf8}
use Rattle.aig_parts.specs.declared.ternary.Tern.{Tern}
use Rattle.aig_parts.specs.Letters.{letter}
use Rattle.aig_signals.specs.declared.signal.Signal.{Signal}
use Rattle.aig_signals.specs.declared.text.Naming.{Naming}
use Rattle.aig_signals.specs.declared.text.Origin.{Origin}
use Rattle.aig_signals.specs.declared.text.Origin.TheVariants as origin
use Rattle.aig_signals.specs.Naming.{SectionNamed, is_named, signal_bits}
use Rattle.aig_signals.specs.Value.{binary, hexadecimal_digit}

-- a byte in a string: `"` and `\` come after a `\`, a control byte has its number, all others are as they are
abbrev pub string_byte : ℕ → List ℕ
string_byte b =
    if b == 34 || b == 92 then 92 ∷ b ∷ []
    else (if nat_lt b 32 then codes "\\u00" ++ (hexadecimal_digit (b / 16) ∷ hexadecimal_digit (b % 16) ∷ []) else b ∷ [])

-- a string
unfoldable pub string_text : List ℕ → List ℕ
string_text bytes = 34 ∷ (flat_map string_byte bytes ++ 34 ∷ [])

-- a comma before a text
abbrev pub comma_before : List ℕ → List ℕ
comma_before text = 44 ∷ text

-- an array of these texts
abbrev pub array_text : List (List ℕ) → List ℕ
array_text [] = codes "[]"
array_text (x ∷ xs) = 91 ∷ (x ++ (flat_map comma_before xs ++ 93 ∷ []))

-- a name: null if it is empty, a string if it is UTF-8, else the array of its bytes
abbrev pub name_text : List ℕ → List ℕ
name_text [] = codes "null"
name_text (b ∷ bs) = if is_utf8 (b ∷ bs) then string_text (b ∷ bs) else array_text (map decimal (b ∷ bs))

-- a signal with these bits, of which the last letter is that of the entry at its position
unfoldable pub signal_with : List (Option Tern) → Signal → List ℕ
signal_with bits signal =
    codes "{\"letter\":\"" ++ (letter signal.kind ∷ (codes "\",\"position\":" ++ (decimal signal.first
    ++ (codes ",\"name\":" ++ (string_text signal.name ++ (codes ",\"value\":\"" ++ (binary bits ++ codes "\"}")))))))

-- a signal with its bits
abbrev pub signal_object : List (Option Tern) → Signal → List ℕ
signal_object values signal = signal_with (signal_bits values signal) signal

-- the signals of which a bit is named
unfoldable pub section_objects : SectionNamed → List (List ℕ)
section_objects n = map (signal_object n.values) (filter (is_named n.values) n.signals)

-- inputs and then latches, and what ends a line
abbrev pub named_end : Naming → List ℕ
named_end n = array_text (section_objects n.inputs ++ section_objects n.latches) ++ codes "}\n"

-- the literals that were asked for at T, whose values are from bit 0 up
abbrev pub asked_start : List ℕ → List (Option Tern) → ℕ → List ℕ
asked_start name bits t =
    codes "{\"line\":\"asked\",\"frame\":" ++ (decimal t ++ (codes ",\"name\":" ++ (string_text name
    ++ (codes ",\"value\":\"" ++ (binary bits ++ (codes "\",\"by\":" ++ (decimal t ++ codes ",\"causes\":")))))))

-- latches at S, by S - 1
abbrev pub latches_start : List ℕ → ℕ → List ℕ
latches_start object s =
    codes "{\"line\":\"latches\",\"frame\":" ++ (decimal s ++ (codes ",\"signal\":" ++ (object
    ++ (codes ",\"by\":" ++ (decimal (s - 1) ++ codes ",\"causes\":")))))

-- the latches that are named at the last frame
abbrev pub origin_start : Origin → List ℕ
origin_start (origin.NotExplained f) = codes "{\"line\":\"not explained\",\"frame\":" ++ (decimal f ++ codes ",\"latches\":")
origin_start origin.Reset = codes "{\"line\":\"reset\",\"frame\":0,\"latches\":"
origin_start origin.Start = codes "{\"line\":\"start\",\"frame\":0,\"latches\":"
