use Rattle.std.proofs.Common.{◌≡◌, length}
use Rattle.aig_certificate.specs.state.Marks.{AreMeaningsOf, AreRight}
use Rattle.aig_certificate.specs.state.Said.{sharing_of}
use Rattle.aig_certificate.proofs.shared.Reading.meanings.Given as goal

abbrev pub invariant-loop-position : goal.invariant-loop-position
invariant-loop-position l = record {
  count : length l.meanings ≡ l.position;
  meanings : AreMeaningsOf l.self.model.now l.self.certificate.now (sharing_of l.self.sharing) l.kind l.meanings;
  right : AreRight l.self.model.now l.self.certificate.now l.kind l.position;
}
