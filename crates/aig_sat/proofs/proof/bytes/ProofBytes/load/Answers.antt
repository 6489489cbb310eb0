use Rattle.std.proofs.Common.{◌≡◌, ◌∙◌, ◌+◌, ◌-◌, [], take, refl, sym, ap, arith, rules}
use Rattle.std.specs.Prelude.{false}
use Rattle.std.proofs.lemmas.List.{append-nil}
use borrow.Rule.Slice.PartMut.{put_mid}
use Rattle.aig_sat.specs.proof.Steps.{Block}
use Rattle.aig_sat.specs.proof.state.Taking.{held}
use Rattle.aig_sat.proofs.reading.TakingLemmas.{bytes_read, held_more, held_same, text_read}
use Rattle.aig_sat.proofs.proof.bytes.ProofBytes.load.Goals as goal

pub returns-in-Err : goal.returns-in-Err
returns-in-Err g c = record {
  loads = record {
    count = search rules;
    ended = search rules;
    text =
        let s = c.self.inside in
        let begun : s.ended ≡ false = ap (λ (b : Block). b.ended) c.self.view_is ∙ c.requires in
        let same = held_same s.start s.end _ s.buffer c.read.new.buffer c.self.invariant.0 (omega (arith, c.self.told, c.self.invariant)) in
        rw (← c.self.view_is) (text_read _ _ _ _ [] begun begun (same ∙ sym (append-nil _)) c.in-Err.ensures.given refl);
    bytes =
        let s = c.self.inside in
        let begun : s.ended ≡ false = ap (λ (b : Block). b.ended) c.self.view_is ∙ c.requires in
        let same = held_same s.start s.end (32768 - s.end) s.buffer c.read.new.buffer c.self.invariant.0 (omega (arith, c.self.told, c.self.invariant)) in
        let old : Block = record { waiting = held s.start s.end s.buffer; ended = s.ended; previous = s.previous } in
        let new : Block = record { waiting = held s.start s.end (put_mid s.end (32768 - s.end) s.buffer c.read.new.buffer); ended = s.ended; previous = s.previous } in
        rw (← c.self.view_is) (bytes_read old new _ _ [] begun begun (same ∙ sym (append-nil _)) c.in-Err.ensures.given);
  };
}

pub returns-in-Ok : goal.returns-in-Ok
returns-in-Ok g c = record {
  loads = record {
    count = search rules;
    ended = search rules;
    text =
        let s = c.self.inside in
        let begun : s.ended ≡ false = ap (λ (b : Block). b.ended) c.self.view_is ∙ c.requires in
        let more = held_more s.start s.end c.in-Ok.count _ s.buffer c.read.new.buffer c.self.invariant.0
        (omega (arith, c.self.told, c.self.invariant)) c.in-Ok.ensures.bound in
        rw (← c.self.view_is) (text_read _ _ _ _ (take c.in-Ok.count c.read.new.buffer) begun begun more c.in-Ok.ensures.given refl);
    bytes =
        let s = c.self.inside in
        let n = c.in-Ok.count in
        let begun : s.ended ≡ false = ap (λ (b : Block). b.ended) c.self.view_is ∙ c.requires in
        let more = held_more s.start s.end n (32768 - s.end) s.buffer c.read.new.buffer c.self.invariant.0
        (omega (arith, c.self.told, c.self.invariant)) c.in-Ok.ensures.bound in
        let old : Block = record { waiting = held s.start s.end s.buffer; ended = s.ended; previous = s.previous } in
        let new : Block = record { waiting = held s.start (s.end + n) (put_mid s.end (32768 - s.end) s.buffer c.read.new.buffer); ended = s.ended; previous = s.previous } in
        rw (← c.self.view_is) (bytes_read old new _ _ (take n c.read.new.buffer) begun begun more c.in-Ok.ensures.given);
  };
}
