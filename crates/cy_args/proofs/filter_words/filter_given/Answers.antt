use Rattle.std.proofs.Common.{◌≡◌, ◌∙◌, ◌^◌, ◌-◌, List, [], Option, None, Some, ℕ, ap, option_map, refl, sym, unwrap_or, codes}
use Rattle.std.specs.Borrow.{Bor}
use Rattle.cy_args.specs.FilterWords.{◌>>=◌, names_in, number_or}
use Rattle.cy_args.specs.Options.{Options}
use Rattle.cy_args.specs.private.OptionViews.{table_of, values_of}
use Rattle.cy_args.proofs.filter_words.filter_given.Goals as goal

names_now : (x : Option (Bor (List ℕ))) → option_map (λ (l : Bor (List ℕ)). names_in l.now) x ≡ option_map names_in (option_map (λ (l : Bor (List ℕ)). l.now) x)
names_now None = refl
names_now (Some l) = refl

pub returns : goal.returns
returns c =
    let o : Options = values_of (table_of c.args.known.now) c.args.values in
    let begin : Some c.in_ok-begin.begin ≡ number_or 0 (o (codes "begin")) = sym c.in_ok-begin.was ∙ c.number.ensures in
    let end : Some c.in_ok-end.end ≡ number_or (2 ^ 64 - 1) (o (codes "end")) = sym c.in_ok-end.was ∙ c.number-2.ensures in
    let only : option_map (λ (l : Bor (List ℕ)). names_in l.now) c.of-only.result ≡ option_map names_in (o (codes "channels")) =
    names_now c.of-only.result ∙ ap (option_map names_in) c.of-only.ensures in
    let drop : option_map (λ (l : Bor (List ℕ)). names_in l.now) c.of-drop.result ≡ option_map names_in (o (codes "drop")) =
    names_now c.of-drop.result ∙ ap (option_map names_in) c.of-drop.ensures in
    λ i. begin i >>= λ begin. end i >>= λ end. Some (record { only = only i; drop = unwrap_or (drop i) []; begin = begin; end = end })
