use Rattle.cy_recording.proofs.Keeps.{kept_files}
use Rattle.cy_recording.proofs.Seen.{told_same}
use Rattle.cy_recording.proofs.compared.Compared.look_at.Goals as goal

pub returns-in-Ok-clause-answers : goal.returns-in-Ok-clause-answers
returns-in-Ok-clause-answers g c = record {
  place = told_same _ _ _ _ _ (kept_files _ _ _ _ c.args.self.now.kept) c.args.self.now.named c.in-Ok.ensures.place;
  only_memory = λ e. cc;
}
