use Rattle.std.proofs.Common.{sym, ◌∙◌, drop, refl}
use Rattle.cy_store.specs.Files.{content}
use Rattle.cy_recording.proofs.Seen.{looks_found, looks_behind}
use Rattle.cy_recording.proofs.compared.Compared.look.Goals as goal

pub returns-in-Some : goal.returns-in-Some
returns-in-Some g c = record {
  place = looks_found 2064 g.K.Known.name g.K.Known.start.files (drop 2064 (content c.args.self.now.shown.files g.K.Known.name)) c.args.bytes.now c.in-Some.place
      (λ m file told there. sym c.in-Some.is ∙ c.args.self.now.seen.differs m file told there);
  same = refl;
  only_memory = λ e. cc;
}

pub returns-in-None : goal.returns-in-None
returns-in-None g c =
    looks_behind g.K.Known.name g.K.Known.start.files c.args.self.now.shown.files _ c.args.self.now.header.items c.args.bytes.now c.args.self.now.size c.args.self.now.place _
    c.args.self.now.seen c.in-None.is c.requires.behind c.look_at.ensures.shown c.look_at.ensures.answers
