-- The first channel that stands a second time, reader by reader.
use Rattle.std.proofs.Common.{ℕ, ◌≡◌, ◌+◌, ◌<◌, Bool, true, false, ◌||◌, if◌then◌else◌, List, [], ◌∷◌, ◌++◌, length, map, take, drop, get_or, Some, refl, sym, ap, ◌∙◌}
use Rattle.std.proofs.lemmas.List.{map-append, take_more, drop_more}
use Rattle.std.specs.List.{list_any}
use Rattle.std.specs.Str.{bytes_eq}
use Rattle.cy_config.specs.Refusals.{repeated_behind}
use Rattle.cy_dag.specs.declared.dag.DagReader.{DagReader}

abbrev channel_of : DagReader → List ℕ
channel_of r = r.channel

any_map : (p : List ℕ → Bool) (rs : List DagReader) → list_any p (map channel_of rs) ≡ list_any (λ r. p r.channel) rs
any_map p [] = refl
any_map p (r ∷ rs) = ap (λ b. p r.channel || b) (any_map p rs)

pub channel_step : (rs : List DagReader) (k : ℕ) (r : DagReader) (seen : Bool) → k < length rs → r ≡ get_or rs k r → seen ≡ list_any (λ e. bytes_eq e.channel r.channel) (take k rs)
    → repeated_behind (map channel_of (take k rs)) (map channel_of (drop k rs))
    ≡ (if seen then Some r.channel else repeated_behind (map channel_of (take (k + 1) rs)) (map channel_of (drop (k + 1) rs)))
channel_step rs k r seen there here is =
    let rest : drop k rs ≡ r ∷ drop (k + 1) rs = drop_more rs k r there ∙ ap (λ (x : DagReader). x ∷ drop (k + 1) rs) (sym here) in
    let front : map channel_of (take (k + 1) rs) ≡ map channel_of (take k rs) ++ r.channel ∷ [] =
    ap (map channel_of) (take_more rs k r there ∙ ap (λ (x : DagReader). take k rs ++ x ∷ []) (sym here)) ∙ map-append channel_of (take k rs) (r ∷ []) in
    rw (rest, front, is, any_map (λ n. bytes_eq n r.channel) (take k rs)) refl

pub found_where : {A : Type 0} (b : Bool) (x y : A) → b ≡ true → (if b then x else y) ≡ x
found_where b x y is = rw is refl

pub later_where : {A : Type 0} (b : Bool) (x y : A) → b ≡ false → (if b then x else y) ≡ y
later_where b x y is = rw is refl
