use Rattle.std.proofs.lemmas.Result.{err_from_is_err_and}
use Rattle.std.proofs.Common.{take, ◌^◌, ◌+◌, ◌++◌, codes, append-nil, refl, ◌≡◌, ◌<◌, length, None, ap, sym, ◌∙◌, arith}
use Rattle.std.proofs.lemmas.List.{take_all}
use Rattle.cy_text.specs.Fields.{size_of}
use Rattle.cy_text.specs.Entries.{fields_of, held_of}
use Rattle.cy_config.specs.Kinds.{inside_of}
use Rattle.cy_config.specs.private.Tallies.{times_of}
use Rattle.cy_config.specs.Checks.{first_misfit, path_of, unknown_paths}
use Rattle.cy_config.proofs.CheckSteps.{misfit_unknown, unknown_unknown, misfit_known, unknown_known, misfit_whole, misfit_err, counted_more, paths_join, index_is, path_is, misfit_inside, misfit_outside, unknown_inside, unknown_outside, entry_below, inside_size, count_stays, few_under, more_paths, path_name}
use Rattle.cy_config.proofs.checks.+check_fields.Goals as goal
use Rattle.cy_config.proofs.checks.+check_fields.Goals.{in-Some-inside+in_ok-path+in_ok-check_fields, in_default-inside+else-not-takes}

pub loop-entry-preserved-in_default : goal.loop-entry-preserved-in_default
loop-entry-preserved-in_default g t c =
    let table = g.M.Described.field in
    let m = c.args.message in
    let path = c.args.path.now in
    let es = c.entries-entry-items.result.now in
    let k = c.loop-entry.entry-index in
    let e = c.entry-item.result in
    let there = c.loop-entry-test.true in
    let here = c.entry-item.is in
    let before = c.loop-entry.invariant in
    let none = ap (table m) (sym c.as_str-name.ensures.value) ∙ sym c.in_default.ensures in
    record {
      fits = misfit_unknown table m path es k e there here before.fits none;
      unknown = more_paths c.args.unknown.now.items c.loop-entry.unknown.items c.push.new.self.items (unknown_paths table m path (fields_of (take k es))) (unknown_paths table m path (fields_of (take (k + 1) es)))
          c.in_ok-path_of.field-0 (path ++ e.name) before.unknown c.in_ok-push.ensures.items
          (c.in_ok-path_of.ensures ∙ path_name path c.as_str-name.result.now ∙ ap (λ n. path ++ n) c.as_str-name.ensures.value)
          (unknown_unknown table m path es k e there here none);
      counted = λ name f some. count_stays table m name f es k e (times_of c.loop-entry.tally.met.items name) there here none some (before.counted name f some);
      shown = before.shown;
    }

pub next-requires : goal.next-requires
next-requires g t c =
    let few = few_under c.as_str-name.result.now c.entries-entry-items.result.now c.loop-entry.entry-index in
    let there = c.loop-entry-test.true in
    let counted = c.loop-entry.invariant.counted c.as_str-name.result.now c.in-Some.field (sym c.in-Some.ensures) in
    let room : length c.entries-entry-items.result.now < 2 ^ 64 = c.entries-entry-items.type_inv.0 in
    omega (arith, few, counted, there, room)

pub check_fields-requires : goal.check_fields-requires
check_fields-requires g t c κs within =
    let es = c.entries-entry-items.result.now in
    let e = c.entry-item.result in
    let inside = sym c.in-Some-inside.ensures in
    let smaller : size_of c.in-Some-inside.inside.fields.now < size_of (fields_of es) =
    omega (arith, inside_size c.in-Some.field.kind (held_of e.value) c.in-Some-inside.inside.message c.in-Some-inside.inside.fields.now inside, entry_below es c.loop-entry.entry-index e c.loop-entry-test.true c.entry-item.is) in
    let falls : size_of c.in-Some-inside.inside.fields.now < t = omega (arith, smaller, ap size_of c.loop-entry.invariant.shown) in
    (falls, within)

pub returns-in_err-check_fields-clause-misfit : goal.returns-in_err-check_fields-clause-misfit
returns-in_err-check_fields-clause-misfit g t c =
    let table = g.M.Described.field in
    let m = c.args.message in
    let path = c.args.path.now in
    let es = c.entries-entry-items.result.now in
    let k = c.loop-entry.entry-index in
    let e = c.entry-item.result in
    let there = c.loop-entry-test.true in
    let here = c.entry-item.is in
    let before = c.loop-entry.invariant in
    let f = c.in-Some.field in
    let some = ap (table m) (sym c.as_str-name.ensures.value) ∙ sym c.in-Some.ensures in
    let inside = sym c.in-Some-inside.ensures in
    let message = c.in-Some-inside.inside.message in
    let fields = c.in-Some-inside.inside.fields.now in
    let place = path_of f path (fields_of (take k es)) e.name in
    let misfit = misfit_known table m path es k e f there here before.fits some ∙ misfit_inside table f.kind place (held_of e.value) message fields inside in
    let index = index_is f (fields_of (take k es)) e.name c.as_str-name.result.now c.then_some-index.result c.in_ok-next.field-0 c.as_str-name.ensures.value
    c.then_some-index.ensures (c.in_ok-next.ensures.before ∙ before.counted c.as_str-name.result.now f (sym c.in-Some.ensures)) in
    let at = path_is f path (fields_of (take k es)) e.name c.as_str-name.result.now c.then_some-index.result c.as_str-name.ensures.value index in
    let within = c.as_str.ensures.value ∙ c.in_ok-path.ensures ∙ ap (λ p. p ++ codes ".") at in
    let found = misfit ∙ ap (λ p. first_misfit table message p fields) (sym within) in
    let p = err_from_is_err_and c.from_residual-in_err-check_fields.result c.from_residual-in_err-check_fields.ensures.1 in
    rw (p.1, p.2) (misfit_err table m path es (k + 1) (first_misfit table message c.as_str.result.now fields) c.args.tree.now c.in_err-check_fields.field-0.0 before.shown found c.in_err-check_fields.ensures.misfit)

pub returns-then-not-takes-clause-misfit : goal.returns-then-not-takes-clause-misfit
returns-then-not-takes-clause-misfit g t c =
    let table = g.M.Described.field in
    let m = c.args.message in
    let path = c.args.path.now in
    let es = c.entries-entry-items.result.now in
    let k = c.loop-entry.entry-index in
    let e = c.entry-item.result in
    let there = c.loop-entry-test.true in
    let here = c.entry-item.is in
    let before = c.loop-entry.invariant in
    let f = c.in-Some.field in
    let some = ap (table m) (sym c.as_str-name.ensures.value) ∙ sym c.in-Some.ensures in
    let outside : inside_of f.kind (held_of e.value) ≡ None = sym c.in_default-inside.ensures in
    let place = path_of f path (fields_of (take k es)) e.name in
    let misfit = misfit_known table m path es k e f there here before.fits some ∙ misfit_outside table f.kind place (held_of e.value) outside in
    let refused = sym c.takes.ensures ∙ c.if-not-takes.true in
    let index = index_is f (fields_of (take k es)) e.name c.as_str-name.result.now c.then_some-index.result c.in_ok-next.field-0 c.as_str-name.ensures.value
    c.then_some-index.ensures (c.in_ok-next.ensures.before ∙ before.counted c.as_str-name.result.now f (sym c.in-Some.ensures)) in
    let at = path_is f path (fields_of (take k es)) e.name c.as_str-name.result.now c.then_some-index.result c.as_str-name.ensures.value index in
    let is = c.in_ok-path-2.ensures ∙ at in
    misfit_whole table m path es (k + 1) c.in_ok-path-2.path c.args.tree.now before.shown (misfit ∙ rw (refused, is) refl)

pub loop-entry-preserved : goal.loop-entry-preserved
loop-entry-preserved g t c =
    let table = g.M.Described.field in
    let m = c.args.message in
    let path = c.args.path.now in
    let es = c.entries-entry-items.result.now in
    let k = c.loop-entry.entry-index in
    let e = c.entry-item.result in
    let there = c.loop-entry-test.true in
    let here = c.entry-item.is in
    let before = c.loop-entry.invariant in
    let f = c.in-Some.field in
    let some = ap (table m) (sym c.as_str-name.ensures.value) ∙ sym c.in-Some.ensures in
    let index = index_is f (fields_of (take k es)) e.name c.as_str-name.result.now c.then_some-index.result c.in_ok-next.field-0 c.as_str-name.ensures.value
    c.then_some-index.ensures (c.in_ok-next.ensures.before ∙ before.counted c.as_str-name.result.now f (sym c.in-Some.ensures)) in
    let at = path_is f path (fields_of (take k es)) e.name c.as_str-name.result.now c.then_some-index.result c.as_str-name.ensures.value index in
    let place = path_of f path (fields_of (take k es)) e.name in
    let before_it = unknown_paths table m path (fields_of (take k es)) in
    let after_it = unknown_paths table m path (fields_of (take (k + 1) es)) in
    elim c.match-inside.branch [
      | in-Some-inside+in_ok-path+in_ok-check_fields w ↦
          let inside = sym w.in-Some-inside.ensures in
          let message = w.in-Some-inside.inside.message in
          let fields = w.in-Some-inside.inside.fields.now in
          let within = w.as_str.ensures.value ∙ w.in_ok-path.ensures ∙ ap (λ p. p ++ codes ".") at in
          record {
            fits = misfit_known table m path es k e f there here before.fits some ∙ misfit_inside table f.kind place (held_of e.value) message fields inside
                ∙ ap (λ p. first_misfit table message p fields) (sym within) ∙ w.in_ok-check_fields.ensures.fits;
            unknown = ap (λ v. v.items) w.unknown-is
                ∙ paths_join c.args.unknown.now.items c.loop-entry.unknown.items w.check_fields.new.unknown.items before_it (unknown_paths table message w.as_str.result.now fields) after_it before.unknown
                w.in_ok-check_fields.ensures.unknown
                (unknown_known table m path es k e f there here some ∙ ap (λ x. before_it ++ x)
                (unknown_inside table f.kind place (held_of e.value) message fields inside ∙ ap (λ p. unknown_paths table message p fields) (sym within)));
            counted = λ name f' some'. counted_more name c.as_str-name.result.now es k e (times_of c.loop-entry.tally.met.items name) (times_of c.next.new.self.met.items name) there here c.as_str-name.ensures.value (before.counted name f' some') (c.in_ok-next.ensures.counted name);
            shown = before.shown;
          }
      | in_default-inside+else-not-takes w ↦
          let outside : inside_of f.kind (held_of e.value) ≡ None = sym w.in_default-inside.ensures in
          let fits = sym w.takes.ensures ∙ w.if-not-takes.false in
          record {
            fits = misfit_known table m path es k e f there here before.fits some ∙ misfit_outside table f.kind place (held_of e.value) outside ∙ rw fits refl;
            unknown = ap (λ v. v.items) w.unknown-is ∙ before.unknown ∙ ap (λ x. c.args.unknown.now.items ++ x)
                (sym (unknown_known table m path es k e f there here some ∙ ap (λ x. before_it ++ x)
                (unknown_outside table f.kind place (held_of e.value) outside) ∙ append-nil before_it));
            counted = λ name f' some'. counted_more name c.as_str-name.result.now es k e (times_of c.loop-entry.tally.met.items name) (times_of c.next.new.self.met.items name) there here c.as_str-name.ensures.value (before.counted name f' some') (c.in_ok-next.ensures.counted name);
            shown = before.shown;
          }
    ]

pub returns-clause-fits : goal.returns-clause-fits
returns-clause-fits g t c =
    let all = ap fields_of (take_all c.loop-entry.entry-index c.entries-entry-items.result.now c.loop-entry-test.false) ∙ c.loop-entry.invariant.shown in
    ap (first_misfit g.M.Described.field c.args.message c.args.path.now) (sym all) ∙ c.loop-entry.invariant.fits

pub returns-clause-unknown : goal.returns-clause-unknown
returns-clause-unknown g t c =
    let all = ap fields_of (take_all c.loop-entry.entry-index c.entries-entry-items.result.now c.loop-entry-test.false) ∙ c.loop-entry.invariant.shown in
    c.loop-entry.invariant.unknown ∙ ap (λ fields. c.args.unknown.now.items ++ unknown_paths g.M.Described.field c.args.message c.args.path.now fields) all
