use Rattle.std.proofs.Common.{◌≡◌, ◌∷◌, [], ℕ, List, Ok, length, ap, sym, subst, ◌∙◌, inl, inr}
use Rattle.std.specs.Option.{option_map}
use Rattle.std.proofs.lemmas.Result.{err_from_is_err_and}
use Rattle.cy_reader.specs.Record.{parts_of}
use Rattle.cy_cut.specs.Sections.{header_end}
use Rattle.cy_cut.specs.Heads.{heads_of, index_of, seen_index}
use Rattle.cy_reader.specs.private.Loading.{met_of}
use Rattle.cy_reader.proofs.Keeping.{parts_refused, kept_is}
use Rattle.cy_reader.proofs.record.record_in.Goals as goal

pub returns-in_err-header-clause-record_of : goal.returns-in_err-header-clause-record_of
returns-in_err-header-clause-record_of c =
    let p = err_from_is_err_and c.from_residual.result c.from_residual.ensures.1 in
    rw (p.1, p.2) (elim c.in_err-header.ensures.parts [
      | inl memory ↦ inl memory
      | inr wrong ↦ inr (parts_refused c.args.name.now c.args.file _ (ap parts_of (sym c.as_slice.ensures) ∙ wrong))
    ])

pub returns-clause-record_of : goal.returns-clause-record_of
returns-clause-record_of c =
    let header = c.in_ok-header.header in
    let loading = c.in_ok-header.loading in
    let P : List ℕ → Type 0 = λ file. parts_of file ≡ Ok (header, met_of (file ∷ []) loading) in
    let Q : List (List ℕ) → Type 0 = λ bodies. parts_of c.args.file ≡ Ok (header, met_of bodies loading) in
    kept_is c.args.name.now c.args.file c.from_string-name.result (length c.as_slice-3.result.now) header (met_of c.in_ok-bodies.bodies.items loading) c.in_ok-heads.field-0.heads.items
    (option_map seen_index c.in_ok-heads.field-0.index)
    (subst Q (sym c.in_ok-bodies.ensures.items) (subst P c.as_slice.ensures c.in_ok-header.ensures.parts)) (c.from_string-name.ensures ∙ c.in_ok-from_str.ensures.ok) (ap length c.as_slice-3.ensures)
    (c.in_ok-heads.ensures.heads ∙ ap (λ (file : List ℕ). heads_of file header_end) c.as_slice-2.ensures)
    (c.in_ok-heads.ensures.index ∙ ap (λ (file : List ℕ). index_of file header_end) c.as_slice-2.ensures)
