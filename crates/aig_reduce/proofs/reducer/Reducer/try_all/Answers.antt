use Rattle.std.proofs.Common.{arith}
use Rattle.aig_reduce.proofs.Tries.{reducing_ends, reducing_frames}
use Rattle.aig_reduce.proofs.reducer.Reducer.try_all.Goals as goal

pub places-init : goal.places-init
places-init c = record { reducing = λ raw given e h. h }

pub step-place-requires-clause-list : goal.step-place-requires-clause-list
step-place-requires-clause-list c =
    let (raw, given, e, h) = c.requires in
    let old = c.args.self.now in
    let now = c.places.self in
    omega (
      arith,
      c.frames-frames.ensures,
      c.places-test.true,
      reducing_frames raw given old.bench.pair old.property old.start.items _ _ h,
      reducing_frames raw given now.bench.pair now.property now.start.items _ _ (c.places.invariant.reducing raw given e h),
    )

pub step-place-requires-clause-reducing : goal.step-place-requires-clause-reducing
step-place-requires-clause-reducing c =
    let (raw, given, e, h) = c.requires in (raw, given, e, c.places.invariant.reducing raw given e h)

pub places-preserved : goal.places-preserved
places-preserved c = record {
  reducing = λ raw given e h. c.step-place.ensures.reducing raw given e (c.places.invariant.reducing raw given e h);
}

pub returns : goal.returns
returns c = λ raw given e h.
    let old = c.args.self.now in
    let now = c.places.self in
    let r = c.places.invariant.reducing raw given e h in
    reducing_ends raw given now.bench.pair now.property now.start.items c.places.place.list c.places.place.position
    (omega (
      arith,
      c.frames-frames.ensures,
      c.places-test.false,
      reducing_frames raw given old.bench.pair old.property old.start.items _ _ h,
      reducing_frames raw given now.bench.pair now.property now.start.items _ _ r,
    )) r
