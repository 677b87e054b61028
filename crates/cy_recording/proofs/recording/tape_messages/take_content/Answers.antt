use Rattle.std.proofs.Common.{◌∙◌, ℕ, Option, ap, sym}
use Rattle.cy_recording.specs.Recording.{source_of, content_by, played_contents}
use Rattle.cy_recording.proofs.recording.tape_messages.take_content.Goals as goal

pub returns-in_ok-make_content-in-None-clause-content :
    goal.returns-in_ok-make_content-in-None-clause-content
returns-in_ok-make_content-in-None-clause-content c =
    let token = c.args.token.now in
    let contents = played_contents (source_of c.args.played.now) in
    let plans = (source_of c.args.played.now).plans in
    c.in_ok-make_content-in-None.ensures.content contents plans
    ∙ ap (λ (o : Option ℕ). content_by contents plans o token.whole) (sym c.in-None.is)
