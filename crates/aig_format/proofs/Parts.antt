-- What a file says of the parts as wholes: counts, symbols, numbers.
use Rattle.std.proofs.Common.{◌≡◌, ◌≤◌, length, refl, arith}
use Rattle.std.specs.Prelude.{All, sum_by}
use Rattle.std.proofs.lemmas.List.Elements.{All-weaker}
use Rattle.aig_parts.specs.declared.raw.Raw.{Raw}
use Rattle.aig_parts.specs.declared.symbols.Kind.{Kind}
use Rattle.aig_parts.specs.declared.symbols.Kind.TheVariants.{Input, Latch, Output, Bad, Constraint, Justice, Fairness}
use Rattle.aig_parts.specs.Formed as formed
use Rattle.aig_parts.specs.Formed.{section_length, IsSymbolOf, AreNamedOnce, CountsFit, IsFormed}
use Rattle.aig_format.specs.declared.reader.header.Counts.{Counts}
use Rattle.aig_format.specs.declared.reader.section.Properties.{Properties}
use Rattle.aig_format.specs.declared.reader.symbol.Names.{Names}
use Rattle.aig_format.specs.state.HeaderCounts.{AreWithin, counted}
use Rattle.aig_format.specs.Spells.{greatest, HasSpelling}
use Rattle.aig_format.specs.state.ReadingNames.{count_of}
use Rattle.aig_format.proofs.Names.{IsSymbolEntry}
use Rattle.aig_format.proofs.SmallNumbers.{by_section}
use Rattle.aig_format.proofs.SectionLaws.{FitsProperties, Counted}

abbrev pub properties_in : Raw → Properties
properties_in raw =
    record {
      outputs = raw.outputs;
      bad = raw.bad;
      constraints = raw.constraints;
      justice = raw.justice;
      fairness =
          raw.fairness;
    }

abbrev pub names_in : Raw → Names
names_in raw = record { symbols = raw.symbols; comment = raw.comment }

count_is : (raw : Raw) (kind : Kind) → count_of (counted raw) kind ≡ section_length raw kind
count_is raw Input = refl
count_is raw Latch = refl
count_is raw Output = refl
count_is raw Bad = refl
count_is raw Constraint = refl
count_is raw Justice = refl
count_is raw Fairness = refl

pub within_from : (raw : Raw) → IsFormed raw → AreWithin (counted raw)
within_from raw f = record {
  max_var = f.counts.max_var;
  inputs = f.counts.inputs;
  latches = f.counts.latches;
  outputs = f.counts.outputs;
  gates = f.counts.gates;
  bad = f.counts.bad;
  constraints = f.counts.constraints;
  justice = f.counts.justice;
  fairness = f.counts.fairness;
}

pub small_counts : (c : Counts) → AreWithin c → (kind : Kind) → count_of c kind ≤ greatest
small_counts c w Input = omega (arith, w.inputs)
small_counts c w Latch = omega (arith, w.latches)
small_counts c w Output = omega (arith, w.outputs)
small_counts c w Bad = omega (arith, w.bad)
small_counts c w Constraint = omega (arith, w.constraints)
small_counts c w Justice = omega (arith, w.justice)
small_counts c w Fairness = omega (arith, w.fairness)

pub entries_from : (raw : Raw) → IsFormed raw → All (IsSymbolEntry (counted raw)) raw.symbols
entries_from raw f =
    All-weaker (IsSymbolOf raw) (IsSymbolEntry (counted raw))
    (λ e s. record { there = (let is = count_is raw e.0.0 in omega (arith, s.0, is)); named = s.1 }) raw.symbols
    f.symbols

pub formed_from : (raw : Raw) → AreWithin (counted raw) → sum_by length raw.justice ≤ formed.limit
    → All (IsSymbolEntry (counted raw)) raw.symbols → AreNamedOnce raw → IsFormed raw
formed_from raw w sum entries once = record {
  counts = record {
    max_var = w.max_var;
    inputs = w.inputs;
    latches = w.latches;
    outputs = w.outputs;
    bad = w.bad;
    constraints = w.constraints;
    justice = w.justice;
    fairness = w.fairness;
    gates = w.gates;
    justice_literals = sum;
  };
  symbols =
      All-weaker (IsSymbolEntry (counted raw)) (IsSymbolOf raw)
      (λ e s. ((let is = count_is raw e.0.0 in omega (arith, s.there, is)), s.named)) raw.symbols entries;
  names = once;
}

pub fits_properties : (raw : Raw) → HasSpelling raw → FitsProperties (properties_in raw)
fits_properties raw s =
    let small = by_section raw s.numbers in
    record {
      outputs = small.outputs;
      bad = small.bad;
      constraints = small.constraints;
      justice = small.justice;
      fairness = small.fairness;
      within = s.formed.counts.justice_literals;
    }

pub counted_properties : (raw : Raw) → Counted (counted raw) (properties_in raw)
counted_properties raw = record { outputs = refl; bad = refl; constraints = refl; justice = refl; fairness = refl }
