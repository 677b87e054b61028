-- After a write there are the files that the write leaves. Neither argument is looked at.
use Rattle.std.proofs.Common.{[], ◌∷◌, refl}
use Rattle.std.proofs.raw_atomic.Walks.{proved}
use mir.Syntax.{named}
use types.Kit.{‵, raw, ◌⊛◌, ◌$◌, ◌∵◌, !, qed, move, keep, split, join, use0, suffices, done}
use types.Part.{agg}
use types.Run.{enter, no_more, returns}
use types.ByLocal.{alloc_all, pass_all, free_all, look_at, sets}
use denote.Builtin.{RefOf}
use denote.Exit.{yes}
use denote.RattleType.{owns}
use denote.Ref.{shr_vals, shr_Tells}
use denote.Signature.{Slot, plain, named_lft, types_at}
use denote.Steps.{nothing}
use denote.Triple.Entry.{alive}
use denote.Triple.Walked.{Stays, stay_dropped, Goes-dropped, walk_of, says, ends_at}
use Rattle.cy_store.specs.Write.{after_write}
use Rattle.cy_recording.specs.private.Noted.{write_of}
use Rattle.cy_recording.proofs.Fieldless.{blank, shown_of_nothing}
use Rattle.cy_recording.specs.contracts.shown.Shown.{the_row as Row}
use Rattle.cy_recording.specs.contracts.shown.Note.{the_row as NoteRow}
use Rattle.cy_recording.specs.contracts.shown.Shown.then as f
use Rattle.cy_recording.proofs.shown.Shown.then.Statement.{statement}
use Rattle.cy_recording.proofs.shown.Shown.then.Code as code

-- what is passed: the files before, and the write
abbrev before : Slot 3
before = RefOf (0 ∷ []) tt (plain (λ _. Row)) (λ _. tt)

abbrev write : Slot 3
write = RefOf (1 ∷ []) tt (plain (λ κs. NoteRow (named_lft 3 2 tt κs))) (λ _. tt)

abbrev stayed : Stays f.ended.signature.params f.ended.kept
stayed = (stay_dropped before yes, (stay_dropped write yes, tt))

pub then_spec : {M : Type 1} → statement M
then_spec 𝓤 𝓛 𝓜 𝓡 wired =
    let c = f.clauses 𝓛 𝓜.mem 𝓡.returns in
    proved 𝓛 f.ended stayed c 𝓜 𝓡 (Goes-dropped 𝓛 3 before yes (λ κs x w. refl), (Goes-dropped 𝓛 3 write yes (λ κs x w. refl), tt))
    f.Key.name code.function (code.unfolded 𝓤 𝓛.H 𝓜 𝓡 wired)
    (λ κs. (shr_vals, (shr_vals, tt)))
    (λ κs. (shr_Tells (named 0) κs.0 Row, (shr_Tells (named 1) κs.1.0 (NoteRow (named_lft 3 2 tt κs)), tt)))
    (λ κs qs bounds a asked are.
    let y : (walk_of 𝓛 f.ended stayed c).Ghost = ((κs, qs, bounds, a, (shr_vals a.0, (shr_vals a.1.0, tt))), asked) in
    let after : Row.Denot = record { files = after_write (write_of a.1.0.now) a.0.now.files } in
    qed 𝓛 ((raw (alive 𝓛 f.signature κs qs) ⊛ ‵ (owns (types_at f.signature.params κs) a y.0.4)) ∷ raw ((c κs a).requires asked) ∷ []) ∵
    split ! $ keep ! (0 ∷ []) $
    enter ! _ _ _ _ _ $ alloc_all ! (λ l. pass_all ! refl ((tt, tt), ((tt, tt), tt)) $
    sets ! (agg ! (no_more !)) refl (tt, tt) $
    returns ! (look_at ! 0 refl) $ free_all ! refl $
    suffices ! _ (ends_at 𝓛 f.ended stayed c y blank after (tt, (tt, tt)) (tt, (tt, tt))) $ says ! refl $
    use0 𝓛 (‵ (Row.own_val after (blank ∷ []))) (shown_of_nothing 𝓛 after) $
    nothing ! $ nothing ! $ join ! $ nothing ! $ join ! $ move ! (2 ∷ 0 ∷ 1 ∷ []) $ done !))
