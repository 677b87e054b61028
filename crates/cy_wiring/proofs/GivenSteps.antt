-- The values that component files give, file by file.
use Rattle.std.proofs.Common.{ℕ, suc, Bor, ◌≡◌, ◌+◌, ◌<◌, Bool, true, false, not, cond, Option, Some, None, option_map, option_and_then, List, [], ◌∷◌, ◌++◌, length, map, take, drop, get_or, refl, sym, ap, subst, ◌∙◌, arith, append_assoc, append-nil}
use Rattle.std.proofs.lemmas.Bool.{eq-eqb}
use Rattle.std.proofs.lemmas.List.{drop_more, length-take-le, map-append, take-append-drop, take_more}
use Rattle.std.proofs.lemmas.List.Folds.{find-append}
use Rattle.std.proofs.lemmas.Slice.Eq.{bytes_eq-Decides}
use Rattle.std.specs.HashMap.{HashMap, get_by}
use Rattle.std.specs.Option.{option_or}
use Rattle.std.specs.Prelude.{option_copied}
use Rattle.std.specs.Str.{bytes_eq}
use Rattle.cy_value.specs.Forms.{is_same}
use Rattle.cy_value.specs.Names.{kind_name}
use Rattle.cy_value.specs.declared.form.ValueForm.{ValueForm}
use Rattle.cy_value.specs.declared.values.ChannelValue.{ChannelValue}
use Rattle.cy_dag.specs.DagFile.{refuse_if}
use Rattle.cy_wiring.specs.Given.{difference, differs, first_given, given_by, given_from, maker_of}
use Rattle.cy_dag.specs.Refusals.{IsDue}
use Rattle.cy_dag.specs.declared.config.Config.{Config}
use Rattle.cy_dag.specs.declared.dag.DagComponent.{DagComponent}
use Rattle.cy_dag.specs.declared.error.DagError.{DagError}
use Rattle.cy_dag.specs.declared.error.DagError.TheVariants.{ValueDiffers}
use Rattle.cy_wiring.specs.declared.given.Given.{Given}
use Rattle.cy_wiring.specs.private.Pairs.{first_kept, own_value, pair_of}

-- What is found among values with one more behind them.
found_push : (xs : List (ℕ × ChannelValue)) (v : ℕ × ChannelValue) (q : List ℕ) → first_given (xs ++ v ∷ []) q ≡ option_or (first_given xs q) (own_value v q)
found_push xs v q = find-append (λ (g : ℕ × ChannelValue). bytes_eq g.1.channel q) xs (v ∷ [])

itself : (form : ValueForm) → is_same form form ≡ true
itself form = rw ((bytes_eq-Decides form.path form.path).1 refl, (bytes_eq-Decides (kind_name form.kind) (kind_name form.kind)).1 refl, eq-eqb form.scale form.scale refl) refl

same_itself : (v : ℕ × ChannelValue) → difference v v ≡ None
same_itself v = ap (λ (b : Bool). refuse_if (not b) (ValueDiffers v.0 v.0)) (itself v.1.form)

-- The first value of a channel is among those before a value, or it is that value.
module _ (given : List Given) (k : ℕ) (g : Given) (there : k < length given) (here : g ≡ get_or given k g) (first : Option (ℕ × ChannelValue)) (kept : first ≡ first_given (map pair_of (take k given)) g.value.now.channel) where
  abbrev its : Option (ℕ × ChannelValue) → Option DagError
  its o = option_and_then (λ f. difference f (pair_of g)) o

  whole : map pair_of given ≡ map pair_of (take k given) ++ pair_of g ∷ map pair_of (drop (k + 1) given)
  whole =
      let rest : drop k given ≡ g ∷ drop (k + 1) given = drop_more given k g there ∙ ap (λ (x : Given). x ∷ drop (k + 1) given) (sym here) in
      ap (map pair_of) (sym (take-append-drop k given) ∙ ap (λ (xs : List Given). take k given ++ xs) rest) ∙ map-append pair_of (take k given) (g ∷ drop (k + 1) given)

  by_first : (o : Option (ℕ × ChannelValue)) → its (option_or o (Some (pair_of g))) ≡ its o
  by_first None = same_itself (pair_of g)
  by_first (Some f) = refl

  pub differs_by : differs (map pair_of given) (pair_of g) ≡ its first
  differs_by =
      let named = (bytes_eq-Decides g.value.now.channel g.value.now.channel).1 refl in
      let mine : first_given (pair_of g ∷ map pair_of (drop (k + 1) given)) g.value.now.channel ≡ Some (pair_of g) = rw named refl in
      let split : first_given (map pair_of given) g.value.now.channel ≡ option_or first (Some (pair_of g)) =
      ap (λ (xs : List (ℕ × ChannelValue)). first_given xs g.value.now.channel) whole
      ∙ find-append (λ (x : ℕ × ChannelValue). bytes_eq x.1.channel g.value.now.channel) (map pair_of (take k given)) (pair_of g ∷ map pair_of (drop (k + 1) given))
      ∙ ap (λ (o : Option (ℕ × ChannelValue)). option_or (first_given (map pair_of (take k given)) g.value.now.channel) o) mine
      ∙ ap (λ (o : Option (ℕ × ChannelValue)). option_or o (Some (pair_of g))) (sym kept) in
      ap its split ∙ by_first first

  pub differs_accepted : its first ≡ None → differs (map pair_of given) (pair_of g) ≡ None
  differs_accepted accepted = differs_by ∙ accepted

  pub differs_due : (e : DagError) → IsDue (its first) e → IsDue (differs (map pair_of given) (pair_of g)) e
  differs_due e due = subst (λ (o : Option DagError). IsDue o e) (sym differs_by) due

-- What is kept of one value more.
pub kept_more : (given : List Given) (k : ℕ) (g : Given) (q : List ℕ) (before after : Option (ℕ × ChannelValue)) → k < length given → g ≡ get_or given k g
    → before ≡ first_given (map pair_of (take k given)) q → after ≡ option_or before (own_value (pair_of g) q) → after ≡ first_given (map pair_of (take (k + 1) given)) q
kept_more given k g q before after there here was is =
    let front : take (k + 1) given ≡ take k given ++ g ∷ [] = take_more given k g there ∙ ap (λ (x : Given). take k given ++ x ∷ []) (sym here) in
    is ∙ ap (λ (o : Option (ℕ × ChannelValue)). option_or o (own_value (pair_of g) q)) was
    ∙ sym (ap (λ (xs : List Given). first_given (map pair_of xs) q) front ∙ ap (λ (xs : List (ℕ × ChannelValue)). first_given xs q) (map-append pair_of (take k given) (g ∷ [])) ∙ found_push (map pair_of (take k given)) (pair_of g) q)

-- A first value is kept.
alone : (o : Option (ℕ × ChannelValue)) → option_or o None ≡ o
alone None = refl
alone (Some v) = refl

kept_new : (v : ℕ × ChannelValue) (kept : List ℕ → Option (ℕ × ChannelValue)) (q : List ℕ) (after : Option (ℕ × ChannelValue)) → kept v.1.channel ≡ None → after ≡ cond (bytes_eq v.1.channel q) (Some v) (kept q)
    → after ≡ option_or (kept q) (own_value v q)
kept_new v kept q after new is = is ∙ by (bytes_eq v.1.channel q) refl
  where
    by : (b : Bool) → bytes_eq v.1.channel q ≡ b → cond b (Some v) (kept q) ≡ option_or (kept q) (cond b (Some v) None)
    by true same =
        let none : kept q ≡ None = ap kept (sym ((bytes_eq-Decides v.1.channel q).0 same)) ∙ new in
        rw none refl
    by false same = sym (alone (kept q))

pub kept_at : {S : Type 0} (m : HashMap (Bor (List ℕ)) Given S) (name channel : List ℕ) (found : Option (Bor Given)) → option_copied found ≡ get_by (λ k. bytes_eq name k.now) m → name ≡ channel
    → first_kept m channel ≡ option_map pair_of (option_copied found)
kept_at m name channel found is same = ap (first_kept m) (sym same) ∙ ap (option_map pair_of) (sym is)

pub kept_put : {S : Type 0} (m n : HashMap (Bor (List ℕ)) Given S) (name q : List ℕ) (g : Given) → name ≡ g.value.now.channel → first_kept m g.value.now.channel ≡ None
    → get_by (λ k. bytes_eq q k.now) n ≡ cond (bytes_eq name q) (Some g) (get_by (λ k. bytes_eq q k.now) m) → first_kept n q ≡ option_or (first_kept m q) (own_value (pair_of g) q)
kept_put m n name q g same new is =
    kept_new (pair_of g) (first_kept m) q (first_kept n q) new
    (ap (option_map pair_of) is ∙ by (bytes_eq name q) (get_by (λ (k : Bor (List ℕ)). bytes_eq q k.now) m) ∙ ap (λ (x : List ℕ). cond (bytes_eq x q) (Some (pair_of g)) (first_kept m q)) same)
  where
    by : (b : Bool) (o : Option Given) → option_map pair_of (cond b (Some g) o) ≡ cond b (Some (pair_of g)) (option_map pair_of o)
    by true o = refl
    by false o = refl

-- What makes the messages of a channel, by its name.
pub maker_is : (cs : List DagComponent) (configs : List Config) (channel name : List ℕ) (found made : Option ℕ) → found ≡ maker_of cs configs channel → channel ≡ name → found ≡ made → maker_of cs configs name ≡ made
maker_is cs configs channel name found made is same gives = ap (maker_of cs configs) (sym same) ∙ sym is ∙ gives

-- One component more.
push_from : (first n : ℕ) (configs : List Config) (config : Config) → n ≡ first + length configs
    → given_from first (configs ++ config ∷ []) ≡ given_from first configs ++ map (λ value. (n, value)) config.options.values
push_from first n [] config is = let e : n ≡ first = omega arith in rw e (append-nil (map (λ (value : ChannelValue). (first, value)) config.options.values))
push_from first n (c ∷ cs) config is =
    let mine : List (ℕ × ChannelValue) = map (λ (value : ChannelValue). (first, value)) c.options.values in
    ap (λ (more : List (ℕ × ChannelValue)). mine ++ more) (push_from (suc first) n cs config (omega (arith, is)))
    ∙ sym (append_assoc mine (given_from (suc first) cs) (map (λ (value : ChannelValue). (n, value)) config.options.values))

pub given_more : (configs : List Config) (k : ℕ) (config : Config) (before after : List (ℕ × ChannelValue)) → k < length configs → config ≡ get_or configs k config
    → before ≡ given_by (take k configs) → after ≡ before ++ map (λ value. (k, value)) config.options.values → after ≡ given_by (take (k + 1) configs)
given_more configs k config before after there here was pushed =
    let front : take (k + 1) configs ≡ take k configs ++ config ∷ [] = take_more configs k config there ∙ ap (λ (x : Config). take k configs ++ x ∷ []) (sym here) in
    let size : k ≡ 0 + length (take k configs) = omega (arith, length-take-le k configs (omega arith)) in
    pushed ∙ ap (λ (x : List (ℕ × ChannelValue)). x ++ map (λ (value : ChannelValue). (k, value)) config.options.values) was
    ∙ sym (ap given_by front ∙ push_from 0 k (take k configs) config size)

-- One value of a component more.
pub pairs_more : (component : ℕ) (values : List ChannelValue) (k : ℕ) (value : ChannelValue) (first : List (ℕ × ChannelValue)) (before after : List Given) (g : Given) → k < length values → value ≡ get_or values k value
    → map pair_of before ≡ first ++ map (λ v. (component, v)) (take k values) → pair_of g ≡ (component, value) → after ≡ before ++ g ∷ []
    → map pair_of after ≡ first ++ map (λ v. (component, v)) (take (k + 1) values)
pairs_more component values k value first before after g there here was is pushed =
    let f : ChannelValue → ℕ × ChannelValue = λ v. (component, v) in
    let front : take (k + 1) values ≡ take k values ++ value ∷ [] = take_more values k value there ∙ ap (λ (x : ChannelValue). take k values ++ x ∷ []) (sym here) in
    ap (map pair_of) pushed ∙ map-append pair_of before (g ∷ []) ∙ ap (λ (x : List (ℕ × ChannelValue)). x ++ pair_of g ∷ []) was
    ∙ ap (λ (x : ℕ × ChannelValue). (first ++ map f (take k values)) ++ x ∷ []) is ∙ append_assoc first (map f (take k values)) (f value ∷ [])
    ∙ ap (λ (x : List (ℕ × ChannelValue)). first ++ x) (sym (ap (map f) front ∙ map-append f (take k values) (value ∷ [])))
