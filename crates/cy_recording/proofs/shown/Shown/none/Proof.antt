-- At first there are no files.
use Rattle.std.proofs.Common.{[], ◌∷◌, refl}
use Rattle.std.specs.FinMap.{empty}
use Rattle.std.proofs.raw_atomic.Walks.{proved}
use types.Kit.{‵, raw, ◌$◌, ◌∵◌, !, qed, drop, use0, suffices, done}
use types.Part.{agg}
use types.Run.{enter, no_more, returns}
use types.ByLocal.{alloc_all, pass_all, free_all, look_at, sets}
use denote.Steps.{nothing}
use denote.Triple.Entry.{on_entry}
use denote.Triple.Walked.{walk_of, says, ends_at}
use Rattle.cy_recording.proofs.Fieldless.{blank, shown_of_nothing}
use Rattle.cy_recording.specs.contracts.shown.Shown.{the_row as Row}
use Rattle.cy_recording.specs.contracts.shown.Shown.none as f
use Rattle.cy_recording.proofs.shown.Shown.none.Statement.{statement}
use Rattle.cy_recording.proofs.shown.Shown.none.Code as code

pub none_spec : {M : Type 1} → statement M
none_spec 𝓤 𝓛 𝓜 𝓡 wired =
    let c = f.clauses 𝓛 𝓜.mem 𝓡.returns in
    let first : Row.Denot = record { files = empty } in
    proved 𝓛 f.ended tt c 𝓜 𝓡 tt f.Key.name code.function (code.unfolded 𝓤 𝓛.H 𝓜 𝓡 wired)
    (λ κs. tt) (λ κs. tt) (λ κs qs bounds a asked are.
    let y : (walk_of 𝓛 f.ended tt c).Ghost = ((κs, qs, bounds, a, tt), asked) in
    qed 𝓛 (raw (on_entry 𝓛 f.signature κs qs a tt) ∷ raw ((c κs a).requires asked) ∷ []) ∵ drop ! $ drop ! $
    enter ! _ _ _ _ _ $ alloc_all ! (λ l. pass_all ! refl tt $
    sets ! (agg ! (no_more !)) refl (tt, tt) $
    returns ! (look_at ! 0 refl) $ free_all ! refl $
    suffices ! _ (ends_at 𝓛 f.ended tt c y blank first tt tt) $ says ! refl $
    use0 𝓛 (‵ (Row.own_val first (blank ∷ []))) (shown_of_nothing 𝓛 first) $ nothing ! $ nothing ! $ done !))
