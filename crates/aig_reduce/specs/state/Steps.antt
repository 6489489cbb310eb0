-- What the steps of a reducer do.
use Rattle.std.specs.Prelude.{◌≡◌, ℕ, List, ◌∷◌}
use Rattle.aig_parts.specs.declared.latch.Latch.{Latch}
use Rattle.aig_parts.specs.declared.ternary.Tern.{Tern}
use Rattle.aig_parts.specs.declared.raw.Raw.{Raw}
use Rattle.aig_sim.specs.WitnessText.{Witness}
use Rattle.aig_reduce.specs.declared.needed.Known.{Known}
use Rattle.aig_reduce.specs.declared.place.Cleared.{Cleared}
use Rattle.aig_reduce.specs.declared.place.ValuePlace.{ValuePlace}
use Rattle.aig_reduce.specs.declared.reducer.Reducer.{Reducer}
use Rattle.aig_reduce.specs.state.Needed.{Knows}
use Rattle.aig_reduce.specs.state.Places.{IsPlace, Undoes}
use Rattle.aig_reduce.specs.state.Reducing.{Clearing, PutsValue, Reducing, Runs, RunsWitness, TriesPlace}

-- its values now: what the latches start at, then the inputs' values frame by frame
abbrev pub values_now : Reducer → List (List Tern)
values_now r = r.start.items ∷ r.bench.pair.rows

abbrev pub HasPlace : Reducer → ValuePlace → Type 0
HasPlace r place = IsPlace (values_now r) place.list place.position

-- what it runs is a confirmed witness of the circuit
abbrev pub Confirmed : Raw → Reducer → Type 0
Confirmed raw r = RunsWitness raw r.bench.pair r.property r.start.items

-- x was tried at position p of list t
abbrev pub TriesAt : Raw → Reducer → Reducer → ℕ → ℕ → Type 0
TriesAt raw old new t p =
    TriesPlace raw old.bench.pair old.property old.start.items new.bench.pair new.property new.start.items t p

-- it runs a circuit with these latches
abbrev pub RunsLatches : List Latch → Reducer → Type 0
RunsLatches latches r = (raw : Raw) × (latches ≡ raw.latches) × Runs raw r.bench.pair r.start.items

-- the value was put at the place of a circuit with these latches
pub record Puts (latches : List Latch) (old : Reducer) (place : ValuePlace) (value : Tern) (new : Reducer)
    : Type 0 where
  pub property : new.property ≡ old.property
  pub puts : (raw : Raw) → latches ≡ raw.latches → Runs raw old.bench.pair old.start.items
      → PutsValue raw old.bench.pair old.start.items place.list place.position value new.bench.pair new.start.items

-- the places of the given witness before this one have been tried
abbrev pub ReducesTo : Raw → Witness → Reducer → ValuePlace → Type 0
ReducesTo raw given r to = Reducing raw given r.bench.pair r.property r.start.items to.list to.position

-- that is so for a witness of which this is known
abbrev pub ReducesKnown : Known → Reducer → ValuePlace → Type 0
ReducesKnown known r to = (raw : Raw) × (given : Witness) × Knows raw given known × ReducesTo raw given r to

-- the places between these two have been tried, whatever the witness is
abbrev pub Tries : Known → Reducer → ValuePlace → Reducer → ValuePlace → Type 0
Tries known old from new to =
    (raw : Raw) (given : Witness) → Knows raw given known → ReducesTo raw given old from → ReducesTo raw given new to

-- values of the given witness before this place became x, all at once, from a frame on
abbrev pub ClearsTo : Raw → Witness → ℕ → Reducer → ValuePlace → Type 0
ClearsTo raw given first r to = Clearing raw given r.bench.pair r.property r.start.items first to.list to.position

abbrev pub ClearsKnown : Known → Reducer → ValuePlace → Type 0
ClearsKnown known r to =
    (raw : Raw) × (given : Witness) × (first : ℕ) × Knows raw given known × ClearsTo raw given first r to

-- values between these places became x, whatever the witness is
abbrev pub Clears : Known → Reducer → ValuePlace → Reducer → ValuePlace → Type 0
Clears known old from new to =
    (raw : Raw) (given : Witness) (first : ℕ) → Knows raw given known → ClearsTo raw given first old from
    → ClearsTo raw given first new to

-- the list of what was replaced leads back to all values that it led back to before
abbrev pub LeadsBack : Known → Reducer → List Cleared → ValuePlace → Reducer → List Cleared → Type 0
LeadsBack known old cleared from new cleared' =
    (raw : Raw) (given : Witness) (first : ℕ) (was : List (List Tern)) → Knows raw given known
    → ClearsTo raw given first old from → Undoes cleared (values_now old) was → Undoes cleared' (values_now new) was
