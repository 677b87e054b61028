-- A trace in parts.
use Rattle.std.proofs.Common.{ℕ, zero, suc, subst, get_or, ◌+◌, ◌^◌, ◌≡◌, ◌≤◌, ◌<◌, ◌∙◌, Bool, true, false, List, [], ◌∷◌, ◌++◌, length, map, take, drop, flat_map, Some, refl, sym, ap, arith, append_assoc, append-nil, is_some, if◌then◌else◌}
use Rattle.std.specs.Prelude.{slice_get, filter, All}
use Rattle.std.specs.List.{AllZip}
use Rattle.std.proofs.Math.Seq.{drop-nil, take-add}
use Rattle.std.proofs.lemmas.Option.{slice_get_within, get_or_from_slice_get}
use Rattle.std.proofs.lemmas.List.{length-take-le, take_more, flat_map_more}
use Rattle.std.proofs.lemmas.List.Concat.{flat_map-append}
use Rattle.std.proofs.lemmas.List.Elements.{All-nil, All-push}
use Rattle.cy_fuse.specs.Fusion.{Arrival}
use Rattle.cy_comp.specs.declared.plan.Plan.{Plan}
use Rattle.cy_comp.specs.declared.call.Call.{Call}
use Rattle.cy_comp.specs.Calls.{cursor_after}
use Rattle.wake_core.specs.Run.{Run}
use Rattle.cy_trace_text.specs.declared.parts.Part.{Part}
use Rattle.cy_trace_text.specs.declared.parts.Part.TheVariants.{Head, Opening, Calls, Ending, Tape}
use Rattle.cy_trace_text.specs.TraceText.{trace_text, components_text, call_lines, end_line, tape_line, component_text}
use Rattle.cy_trace.specs.LineParts.{version_of}
use Rattle.cy_trace_text.specs.Parts.{opening_text, opening_of, part_text, parts_text, IsPartOf}
use Rattle.cy_trace_text.specs.private.Adding.{Adds}
use Rattle.cy_trace_text.specs.private.OutsAfter.{outs_after}
use Rattle.cy_trace_text.proofs.Gathered.{calls_split, outs_few}
use Rattle.cy_trace_text.proofs.Pushed.{component_added}

-- How many outputs there are behind some calls.
one_more : (b : Bool) (x : Call) (xs : List Call) → length (if b then x ∷ xs else xs) ≡ (if b then 1 else 0) + length xs
one_more true x xs = omega arith
one_more false x xs = omega arith

pub outs_counted : (before : ℕ) (calls : List Call) → outs_after before calls ≡ before + length (filter (λ (x : Call). is_some x.out) calls)
outs_counted before [] = omega arith
outs_counted before (x ∷ rest) =
    let others = outs_counted (before + (if is_some x.out then 1 else 0)) rest in
    let split : length (filter (λ (y : Call). is_some y.out) (x ∷ rest)) ≡ (if is_some x.out then 1 else 0) + length (filter (λ (y : Call). is_some y.out) rest) =
    one_more (is_some x.out) x (filter (λ (y : Call). is_some y.out) rest) in
    omega (arith, others, split)

outs_split : (before : ℕ) (calls others : List Call) → outs_after before (calls ++ others) ≡ outs_after (outs_after before calls) others
outs_split before [] others = refl
outs_split before (x ∷ rest) others = outs_split (before + (if is_some x.out then 1 else 0)) rest others

drop_twice : {X : Type 0} (a b : ℕ) (xs : List X) → drop b (drop a xs) ≡ drop (a + b) xs
drop_twice zero b xs = let n : b ≡ 0 + b = omega arith in ap (λ m. drop m xs) n
drop_twice (suc a) b [] = drop-nil b ∙ sym (drop-nil (suc a + b))
drop_twice (suc a) b (x ∷ xs) = let n : suc (a + b) ≡ suc a + b = omega arith in drop_twice a b xs ∙ ap (λ m. drop m (x ∷ xs)) n

-- What a list of pairs has at a place.
pub zip_at : {A B : Type 0} (R : A → B → Type 0) (xs : List A) (ys : List B) (i : ℕ) (d : A) (e : B) → AllZip R xs ys → i < length ys → (i < length xs) × R (get_or xs i d) (get_or ys i e)
zip_at R [] [] i d e all low = absurd (omega (arith, low))
zip_at R [] (y ∷ ys) i d e all low = absurd all
zip_at R (x ∷ xs) [] i d e all low = absurd (omega (arith, low))
zip_at R (x ∷ xs) (y ∷ ys) zero d e all low = (omega arith, all.0)
zip_at R (x ∷ xs) (y ∷ ys) (suc i) d e all low = let rest = zip_at R xs ys i d e all.1 (omega (arith, low)) in (omega (arith, rest.0), rest.1)

pub zip_long : {A B : Type 0} (R : A → B → Type 0) (xs : List A) (ys : List B) → AllZip R xs ys → length xs ≡ length ys
zip_long R [] [] all = refl
zip_long R [] (y ∷ ys) all = absurd all
zip_long R (x ∷ xs) [] all = absurd all
zip_long R (x ∷ xs) (y ∷ ys) all = ap suc (zip_long R xs ys all.1)

-- One text more behind those of the parts before.
pub text_added : (f : Part → List ℕ) (parts : List Part) (i : ℕ) (d : Part) (to old new : List ℕ) → i < length parts → to ≡ old ++ flat_map f (take i parts) → new ≡ to ++ f (get_or parts i d) → new ≡ old ++ flat_map f (take (i + 1) parts)
text_added f parts i d to old new low so is =
    is ∙ ap (λ (l : List ℕ). l ++ f (get_or parts i d)) so ∙ flat_map_more f old (take i parts) (get_or parts i d)
    ∙ ap (λ (l : List Part). old ++ flat_map f l) (sym (take_more parts i d low))

-- The calls so far, and those of one part more.
pub outs_part : (from count before one : ℕ) (calls some : List Call) → before ≡ outs_after 0 (take from calls) → some ≡ take count (drop from calls) → one ≡ length (filter (λ (x : Call). is_some x.out) some) → before + one ≡ outs_after 0 (take (from + count) calls)
outs_part from count before one calls some so is counted =
    let all = outs_split 0 (take from calls) (take count (drop from calls)) in
    let number = outs_counted before some in
    let same : outs_after before some ≡ outs_after 0 (take (from + count) calls) =
    ap (outs_after before) is ∙ ap (λ n. outs_after n (take count (drop from calls))) so ∙ sym all ∙ ap (outs_after 0) (sym (take-add from count calls)) in
    omega (arith, number, same, counted)

pub rest_part : (from count : ℕ) (calls rest others : List Call) → rest ≡ drop from calls → others ≡ drop count rest → others ≡ drop (from + count) calls
rest_part from count calls rest others so is = is ∙ ap (drop count) so ∙ drop_twice from count calls

pub some_part : (from count : ℕ) (calls rest some : List Call) → rest ≡ drop from calls → some ≡ take count rest → some ≡ take count (drop from calls)
some_part from count calls rest some so is = is ∙ ap (take count) so

pub before_few : (from before : ℕ) (calls : List Call) → before ≡ outs_after 0 (take from calls) → from ≤ length calls → before ≤ from
before_few from before calls is low = omega (arith, is, outs_few 0 (take from calls), length-take-le from calls low)

module _ {names : List (List ℕ)} {plans : List Plan} {shadowed : ℕ} {w : Run} where
  pub adds-none : (parts : List Part) → Adds names plans shadowed w parts parts []
  adds-none parts = record { text = sym (append-nil (parts_text names plans shadowed w parts)); fit = λ all. all }

  pub adds-trans : (a b c : List Part) (s t : List ℕ) → Adds names plans shadowed w a b s → Adds names plans shadowed w b c t → Adds names plans shadowed w a c (s ++ t)
  adds-trans a b c s t f g = record {
    text = g.text ∙ ap (λ l. l ++ t) f.text ∙ append_assoc (parts_text names plans shadowed w a) s t;
    fit = λ all. g.fit (f.fit all);
  }

  pub adds-as : (a b : List Part) (s t : List ℕ) → s ≡ t → Adds names plans shadowed w a b s → Adds names plans shadowed w a b t
  adds-as a b s t is f = record { text = f.text ∙ ap (λ l. parts_text names plans shadowed w a ++ l) is; fit = f.fit }

  -- One part more.
  pub adds-one : (a b : List Part) (part : Part) → b ≡ a ++ part ∷ [] → IsPartOf plans w part → Adds names plans shadowed w a b (part_text names plans shadowed w part)
  adds-one a b part is fits = record {
    text = ap (parts_text names plans shadowed w) is ∙ flat_map-append (part_text names plans shadowed w) a (part ∷ [])
        ∙ ap (λ l. parts_text names plans shadowed w a ++ l) (append-nil (part_text names plans shadowed w part));
    fit = λ all. subst (All (IsPartOf plans w)) (sym is) (All-push (IsPartOf plans w) a part all fits);
  }

  pub calls_part : (c from count before : ℕ) (calls : List Call) (old now next : List Part) → w.calls c ≡ calls → c < length plans → from + count ≤ length calls → before ≡ outs_after 0 (take from calls) → before + count < 2 ^ 64
      → next ≡ now ++ Calls c from count before ∷ [] → Adds names plans shadowed w old now (call_lines 0 (take from calls)) → Adds names plans shadowed w old next (call_lines 0 (take (from + count) calls))
  calls_part c from count before calls old now next its known low so few is f =
      adds-as old next _ _
      (ap (λ (l : List Call). call_lines 0 (take from calls) ++ call_lines before (take count (drop from l))) its
      ∙ ap (λ n. call_lines 0 (take from calls) ++ call_lines n (take count (drop from calls))) so
      ∙ sym (calls_split 0 (take from calls) (take count (drop from calls))) ∙ ap (call_lines 0) (sym (take-add from count calls)))
      (adds-trans old now next _ _ f (adds-one now next (Calls c from count before) is (known, omega (arith, low, ap length its), few)))

  pub tape_part : (from count : ℕ) (old now next : List Part) → from + count ≤ length w.tape → next ≡ now ++ Tape from count ∷ [] → Adds names plans shadowed w old now (flat_map (tape_line names) (take from w.tape))
      → Adds names plans shadowed w old next (flat_map (tape_line names) (take (from + count) w.tape))
  tape_part from count old now next low is f =
      adds-as old next _ _
      (sym (flat_map-append (tape_line names) (take from w.tape) (take count (drop from w.tape))) ∙ ap (flat_map (tape_line names)) (sym (take-add from count w.tape)))
      (adds-trans old now next _ _ f (adds-one now next (Tape from count) is low))

  -- The parts of a component.
  pub component_parts : (c : ℕ) (p : Plan) (calls : List Call) (old opened called next : List Part) → slice_get plans c ≡ Some p → w.calls c ≡ calls → opened ≡ old ++ Opening c ∷ []
      → (c < length plans → w.calls c ≡ calls → Adds names plans shadowed w opened called (call_lines 0 calls)) → next ≡ called ++ Ending c ∷ []
      → Adds names plans shadowed w old next (component_text (version_of plans) p (w.arrivals c) (w.calls c) (w.ended c))
  component_parts c p calls old opened called next at its first middle last =
      let known : c < length plans = slice_get_within plans c p at in
      let a = adds-as old opened _ _ (ap (λ o. opening_of (version_of plans) o (w.arrivals c)) at) (adds-one old opened (Opening c) first known) in
      let b = adds-trans old opened called _ _ a (middle known its) in
      let whole = adds-trans old called next _ _ b (adds-one called next (Ending c) last known) in
      adds-as old next _ _ (ap (λ (l : List Call). opening_text (version_of plans) p (map (λ (a : Arrival). a.0) (w.arrivals c)) ++ call_lines 0 l ++ end_line (w.ended c) (cursor_after (w.calls c))) (sym its)) whole

-- The title and what was played come first.
pub head_first : (names : List (List ℕ)) (plans : List Plan) (w : Run) (none first : List Part) → none ≡ [] → first ≡ none ++ Head ∷ []
    → All (IsPartOf plans w) first × ((number : ℕ) → parts_text names plans number w first ≡ part_text names plans number w Head)
head_first names plans w none first nothing is = (
  subst (All (IsPartOf plans w)) (sym only) (All-push (IsPartOf plans w) [] Head (All-nil (IsPartOf plans w)) tt),
  λ number. ap (parts_text names plans number w) only ∙ append-nil (part_text names plans number w Head),
)
  where
    only : first ≡ Head ∷ []
    only = is ∙ ap (λ l. l ++ Head ∷ []) nothing

pub plan_at : (plans : List Plan) (n : ℕ) → n < length plans → (p : Plan) × (slice_get plans n ≡ Some p)
plan_at [] n low = absurd (omega (arith, low))
plan_at (p ∷ plans) zero low = (p, refl)
plan_at (p ∷ plans) (suc n) low = plan_at plans n (omega (arith, low))

-- A component more behind the texts of those before.
pub component_text_added : (w : Run) (plans : List Plan) (n : ℕ) (p : Plan) → slice_get plans n ≡ Some p → (to new whole : List ℕ) → to ++ components_text (version_of plans) w n (drop n plans) ≡ whole
    → new ≡ to ++ component_text (version_of plans) p (w.arrivals n) (w.calls n) (w.ended n) → new ++ components_text (version_of plans) w (n + 1) (drop (n + 1) plans) ≡ whole
component_text_added w plans n p at to new whole so is =
    component_added (version_of plans) w plans n p to new whole (slice_get_within plans n p at) (sym (get_or_from_slice_get plans n p p at)) so is

-- All parts together are the trace.
pub whole_parts : (names : List (List ℕ)) (plans : List Plan) (shadowed : ℕ) (w : Run) (parts before : List Part) → Adds names plans shadowed w before parts (flat_map (tape_line names) w.tape)
    → parts_text names plans shadowed w before ≡ part_text names plans shadowed w Head ++ components_text (version_of plans) w 0 plans → parts_text names plans shadowed w parts ≡ trace_text names plans shadowed w
unfolding trace_text
whole_parts names plans shadowed w parts before a so = a.text ∙ ap (λ l. l ++ flat_map (tape_line names) w.tape) so
