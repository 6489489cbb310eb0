-- Edits of an array, one after the other: sums of reports, and where they stop.
use Rattle.std.proofs.Common.{◌≡◌, ◌≢◌, ℕ, ◌+◌, ◌<◌, List, length, ◌∙◌, ap, arith, refl, sym, subst}
use Rattle.std.specs.Prelude.{Ok, Some, slice_get, slice_index_or}
use Rattle.std.proofs.lemmas.Option.{slice_get-get_or}
use Rattle.aig_bench.specs.BenchState.{BenchState}
use Rattle.aig_c.specs.Live.{Done, Refuses, RunsEdits, capped, edit_in}
use Rattle.aig_c.specs.declared.live.change.AigReport.{AigReport}
use Rattle.aig_c.specs.declared.live.many.AigEdit.{AigEdit}
use Rattle.aig_c.specs.state.Changes.{DoneSoFar, Steps}

-- a sum that was told in 64 bits, and one more number
capped_more : (all more : ℕ) → capped (capped all + more) ≡ capped (all + more)
capped_more all more = omega arith

added : (sum all more new : ℕ) → sum ≡ capped all → new ≡ capped (sum + more) → new ≡ capped (all + more)
added sum all more new is adds = adds ∙ (ap (λ n. capped (n + more)) is ∙ capped_more all more)

-- no edit is done so far
pub none_so_far : (old : BenchState) (entries : List AigEdit) (sum : AigReport) → sum.evaluated ≡ 0 → sum.changed ≡ 0
    → DoneSoFar old entries 0 sum old
none_so_far old entries sum evaluated changed = record {
  all_evaluated = 0;
  all_changed = 0;
  are_done = Done.none;
  evaluated_is = omega (arith, evaluated);
  changed_is = omega (arith, changed);
}

-- one more edit is done
pub one_more : (old : BenchState) (entries : List AigEdit) (i : ℕ) (d : AigEdit) (sum more : AigReport) (mid new : BenchState)
    → DoneSoFar old entries i sum mid → i < length entries → Steps mid (slice_index_or entries i d) sum more new
    → DoneSoFar old entries (i + 1) more new
one_more old entries i d sum more mid new far within step = record {
  all_evaluated = far.all_evaluated + step.report.evaluated;
  all_changed = far.all_changed + step.report.changed;
  are_done = Done.next far.are_done (slice_index_or entries i d) (slice_get-get_or entries i d within) step.e step.reads
      step.report new step.does;
  evaluated_is =
      added sum.evaluated far.all_evaluated step.report.evaluated more.evaluated far.evaluated_is step.adds.evaluated;
  changed_is = added sum.changed far.all_changed step.report.changed more.changed far.changed_is step.adds.changed;
}

-- the next edit is refused
pub stopped : (old : BenchState) (entries : List AigEdit) (i done status : ℕ) (d : AigEdit) (sum more : AigReport)
    (mid new : BenchState) → DoneSoFar old entries i sum mid → done ≡ i → i < length entries → status ≢ 0
    → (new ≡ mid) × (more ≡ sum) → Refuses new (edit_in (slice_index_or entries i d)) status
    → RunsEdits old entries status done more.evaluated more.changed new
stopped old entries i done status d sum more mid new far at within other stays refuses = record {
  all_evaluated = far.all_evaluated;
  all_changed = far.all_changed;
  are_done = subst (λ n. Done entries old n far.all_evaluated far.all_changed new) (sym at)
      (subst (λ state. Done entries old i far.all_evaluated far.all_changed state) (sym stays.0) far.are_done);
  evaluated_is = ap (λ (r : AigReport). r.evaluated) stays.1 ∙ far.evaluated_is;
  changed_is = ap (λ (r : AigReport). r.changed) stays.1 ∙ far.changed_is;
  whole = λ zero. absurd (other zero);
  refused = λ _. (
    slice_index_or entries i d,
    ap (λ n. slice_get entries n) at ∙ slice_get-get_or entries i d within,
    refuses,
  );
}
