-- What `gate` says of a literal (our own choice).
-- Example: `valid[3] = 32: latch, next 319, reset x`.
use Rattle.std.specs.Prelude.{◌≡◌, ℕ, ◌*◌, ◌%◌, ◌&&◌, nat_eq, if◌then◌else◌, List, [], ◌∷◌, ◌++◌, codes, decimal}
use Rattle.std.specs.Prelude.{Option, None, Some, slice_get}
use Rattle.std.specs.Str.{bytes_eq}
use Rattle.aig_parts.specs.Literal.{variable}
use Rattle.aig_parts.specs.declared.gate.Gate.{Gate}
use Rattle.aig_parts.specs.declared.latch.Latch.{Latch}
use Rattle.aig_parts.specs.declared.raw.Raw.{Raw}
use Rattle.aig_parts.specs.declared.symbols.Kind.{Kind}
use Rattle.aig_parts.specs.declared.symbols.Kind.TheVariants as kinds
use Rattle.aig_parts.specs.declared.ternary.Tern.{Tern}
use Rattle.aig_base.specs.Definition.{Defines, IsFree}
use Rattle.aig_base.specs.Value.{reset_value}
use Rattle.aig_base.specs.declared.circuit.definition.Definition.{Definition}
use Rattle.aig_base.specs.declared.circuit.definition.Definition.TheVariants as definition
use Rattle.aig_signals.specs.Lookup.{Means, alone}
use Rattle.aig_signals.specs.Names.{first_name}
use Rattle.aig_values.specs.Characters.{character}

-- `!` where a literal is odd
abbrev pub sign_text : ℕ → List ℕ
sign_text l = if nat_eq (l % 2) 0 then [] else codes "!"

-- `rst`, and `!rst` where the literal is odd
abbrev pub entry_text : Raw → ℕ → Kind → ℕ → List ℕ
entry_text raw l kind p = sign_text l ++ first_name raw kind p

-- what defines a variable, if something does
abbrev pub IsDefinition : Raw → ℕ → Option Definition → Type 0
IsDefinition raw v None = IsFree raw v
IsDefinition raw v (Some d) = Defines raw v d

-- an input or a latch by its name, any other literal by its number
abbrev pub side_text : Raw → ℕ → Option Definition → List ℕ
side_text raw l (Some (definition.Input p)) = entry_text raw l kinds.Input p
side_text raw l (Some (definition.Latch p)) = entry_text raw l kinds.Latch p
side_text raw l (Some (definition.Gate q)) = decimal l
side_text raw l None = decimal l

abbrev pub IsSide : Raw → ℕ → List ℕ → Type 0
IsSide raw l text = (d : Option Definition) × IsDefinition raw (variable l) d × (text ≡ side_text raw l d)

-- `NAME = 319`
abbrev pub named_text : List ℕ → ℕ → List ℕ
named_text name l = name ++ (codes " = " ++ decimal l)

-- `319 = !318`
abbrev pub negated_text : ℕ → List ℕ
negated_text l = decimal l ++ (codes " = !" ++ decimal (2 * variable l))

-- `NAME = 318`, and `NAME = 319, 319 = !318`; of the latter the second part alone where the name is the number
abbrev pub head_text : List ℕ → ℕ → List ℕ
head_text name l =
    if nat_eq (l % 2) 0 then named_text name l
    else if bytes_eq (decimal l) name then negated_text l else named_text name l ++ (codes ", " ++ negated_text l)

-- this before the line of a gate; nothing where the name is the even number of the gate
abbrev pub gate_head : List ℕ → ℕ → List ℕ
gate_head name l =
    if nat_eq (l % 2) 0 && bytes_eq (decimal l) name then [] else head_text name l ++ codes ", "

-- `318 = 317 and !rst`
abbrev pub gate_text : ℕ → List ℕ → List ℕ → List ℕ
gate_text l side0 side1 =
    decimal (2 * variable l) ++ (codes " = " ++ (side0 ++ (codes " and " ++ (side1 ++ codes "\n"))))

abbrev pub IsGateText : Raw → List ℕ → ℕ → ℕ → ℕ → List ℕ → Type 0
IsGateText raw name l rhs0 rhs1 text =
    (side0 : List ℕ) × (side1 : List ℕ) × IsSide raw rhs0 side0 × IsSide raw rhs1 side1
    × (text ≡ gate_head name l ++ gate_text l side0 side1)

-- `: latch, next 319, reset x`
abbrev pub latch_text : List ℕ → Tern → List ℕ
latch_text next reset = codes ": latch, next " ++ (next ++ (codes ", reset " ++ character reset ∷ codes "\n"))

-- what is said of a literal that is defined so; the latches have the resets of the file
abbrev pub IsDefinitionText : Raw → List Latch → List ℕ → ℕ → Option Definition → List ℕ → Type 0
IsDefinitionText raw latches name l (Some (definition.Gate q)) text =
    (g : Gate) × (slice_get raw.gates q ≡ Some g) × IsGateText raw name l g.rhs0 g.rhs1 text
IsDefinitionText raw latches name l (Some (definition.Latch p)) text =
    (latch : Latch) × (next : List ℕ) × (slice_get latches p ≡ Some latch) × IsSide raw latch.next next
    × (text ≡ head_text name l ++ latch_text next (reset_value latch.reset))
IsDefinitionText raw latches name l (Some (definition.Input p)) text = text ≡ head_text name l ++ codes ": input\n"
IsDefinitionText raw latches name l None text = text ≡ head_text name l ++ codes ": constant\n"

-- what `gate NAME` says of the literal of the name
abbrev pub IsLiteralText : Raw → List Latch → List ℕ → ℕ → List ℕ → Type 0
IsLiteralText raw latches name l text =
    (d : Option Definition) × IsDefinition raw (variable l) d × IsDefinitionText raw latches name l d text

-- what `gate NAME A B` says of the gate with its new sides
abbrev pub IsRewiredText : Raw → List ℕ → List ℕ → List ℕ → List ℕ → Type 0
IsRewiredText raw name side0 side1 text =
    (l : ℕ) × (rhs0 : ℕ) × (rhs1 : ℕ) × Means raw name (alone l) × Means raw side0 (alone rhs0)
    × Means raw side1 (alone rhs1) × IsGateText raw name l rhs0 rhs1 text
