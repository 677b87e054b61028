-- Readings token by token.
use Rattle.std.proofs.Common.{ℕ, ◌≡◌, ◌<◌, ◌≤◌, List, [], ◌∷◌, ◌++◌, Bool, true, false, Result, Ok, Err, refl, ap, sym, ◌∙◌, arith}
use Rattle.std.proofs.lemmas.Bool.{false≢true}
use Rattle.cy_text.specs.Fields.{Held, Quote}
use Rattle.cy_text.specs.Strings.{and_then}
use Rattle.cy_text.specs.Tokens.{End}
use Rattle.cy_text.specs.Form.{Building, Reading, reading, after_token, placed, finish, read, after_string, after_value, ends_value}
use Rattle.cy_text.specs.Grammar.{on, followed}
use Rattle.cy_text.specs.declared.token.Token.{Token}
use Rattle.cy_text.specs.declared.token.Token.TheVariants as token
use Rattle.cy_text.specs.declared.token.Lexeme.{Lexeme}
use Rattle.cy_text.specs.declared.tree.Span.{Span}
use Rattle.cy_text.specs.declared.expected.Place.{Place}
use Rattle.cy_text.specs.declared.expected.Place.TheVariants as place
use Rattle.cy_text.specs.declared.expected.Slot.{Slot}
use Rattle.cy_text.specs.declared.expected.Expected.{Expected}
use Rattle.cy_text.specs.declared.expected.Expected.TheVariants as expect
use Rattle.cy_text.specs.declared.fault.Fault.{Fault}
use Rattle.cy_text.specs.declared.fault.Fault.TheVariants.{TooDeep}

-- What is read behind some tokens.
abbrev pub run : Reading → List Lexeme → Result Reading Fault
run r [] = Ok r
run r (t ∷ ts) = and_then (after_token r t) (λ n. run n ts)

pub run_append : (r : Reading) (ts us : List Lexeme) → run r (ts ++ us) ≡ and_then (run r ts) (λ n. run n us)
run_append r [] us = refl
run_append r (t ∷ ts) us = elim (after_token r t) as (λ o. and_then o (λ n. run n (ts ++ us)) ≡ and_then (and_then o (λ n. run n ts)) (λ n. run n us)) [
  | Ok n ↦ run_append n ts us
  | Err e ↦ refl
]

-- the end of the text
pub run_to_end : (r : Reading) (ts : List Lexeme) (at : ℕ) → read r (followed ts (End at)) ≡ and_then (run r ts) (λ n. finish n at)
unfolding read
run_to_end r [] at = refl
run_to_end r (t ∷ ts) at = elim (after_token r t) as (λ o. and_then o (λ n. read n (followed ts (End at))) ≡ and_then (and_then o (λ n. run n ts)) (λ n. finish n at)) [
  | Ok n ↦ run_to_end n ts at
  | Err e ↦ refl
]

-- one token
pub run_one : (r n : Reading) (t : Lexeme) → after_token r t ≡ Ok n → run r (t ∷ []) ≡ Ok n
run_one r n t e = rw e refl

-- A string that is read is a value, once it is settled that no other string follows.
abbrev pub settled : Reading → Reading
settled r = elim r.next [
  | expect.Strings slot bytes end ↦ placed r.building slot end (Quote bytes)
  | _ ↦ r
]

settled_field : (b : Building) (slot : Slot) (end : ℕ) (held : Held) (p : Place) → slot.place ≡ p → settled (placed b slot end held) ≡ placed b slot end held
unfolding placed
settled_field b slot end held place.Field e = rw e refl
settled_field b slot end held place.Item e = rw e refl
settled_field b slot end held place.MessageItem e = rw e refl

pub placed_is_settled : (b : Building) (slot : Slot) (end : ℕ) (held : Held) → settled (placed b slot end held) ≡ placed b slot end held
placed_is_settled b slot end held = settled_field b slot end held slot.place refl

once : (b : Building) (next : Expected) → settled (settled (reading b next)) ≡ settled (reading b next)
once b (expect.Strings slot bytes end) = placed_is_settled b slot end (Quote bytes)
once b _ = refl

pub settled_once : (r : Reading) → settled (settled r) ≡ settled r
settled_once r = once r.building r.next

-- No string is the first of some tokens.
abbrev pub is_quote : Token → Bool
is_quote (token.Quote bytes) = true
is_quote _ = false

abbrev pub NoStringFirst : List Lexeme → Type 0
NoStringFirst [] = Unit {0}
NoStringFirst (t ∷ ts) = is_quote t.token ≡ false

-- what no string follows is settled
behind_value : (b : Building) (slot : Slot) (end : ℕ) (held : Held) (l : Lexeme) (p : Place) → slot.place ≡ p → after_value (placed b slot end held) l ≡ after_token (placed b slot end held) l
unfolding after_token after_value placed
behind_value b slot end held l place.Field e = rw e refl
behind_value b slot end held l place.Item e = rw e refl
behind_value b slot end held l place.MessageItem e = rw e refl

behind_string : (b : Building) (slot : Slot) (bytes : List ℕ) (end : ℕ) (s : Span) (t : Token) → is_quote t ≡ false
    → after_string b slot bytes end (on s t) ≡ after_value (placed b slot end (Quote bytes)) (on s t)
unfolding after_string
behind_string b slot bytes end s (token.Quote other) h = absurd (false≢true (sym h))
behind_string b slot bytes end s t h = refl

step_settled : (b : Building) (next : Expected) (s : Span) (t : Token) → is_quote t ≡ false → after_token (reading b next) (on s t) ≡ after_token (settled (reading b next)) (on s t)
unfolding after_token
step_settled b (expect.Strings slot bytes end) s t h = behind_string b slot bytes end s t h ∙ behind_value b slot end (Quote bytes) (on s t) slot.place refl
step_settled b next s t h = refl

pub run_settled : (n : Reading) (t : Lexeme) (ts : List Lexeme) → is_quote t.token ≡ false → run n (t ∷ ts) ≡ run (settled n) (t ∷ ts)
run_settled n t ts h = ap (λ (o : Result Reading Fault). and_then o (λ m. run m ts)) (step_settled n.building n.next t.span t.token h)

end_at_place : (b : Building) (slot : Slot) (end : ℕ) (held : Held) (at : ℕ) (p : Place) → slot.place ≡ p → ends_value (placed b slot end held) at ≡ finish (placed b slot end held) at
unfolding finish ends_value placed
end_at_place b slot end held at place.Field e = rw e refl
end_at_place b slot end held at place.Item e = rw e refl
end_at_place b slot end held at place.MessageItem e = rw e refl

end_settled : (b : Building) (next : Expected) (at : ℕ) → finish (reading b next) at ≡ finish (settled (reading b next)) at
unfolding finish
end_settled b (expect.Strings slot bytes end) at = end_at_place b slot end (Quote bytes) at slot.place refl
end_settled b next at = refl

pub finish_settled : (n : Reading) (at : ℕ) → finish n at ≡ finish (settled n) at
finish_settled n at = end_settled n.building n.next at

-- Tokens lead from one reading to another, settled one, at which messages stand no deeper than 64 if they did before, or to a
-- message that stands too deep.
pub data Leads (r : Reading) (ts : List Lexeme) (s : Reading) (before depth : ℕ) : Type 0 where
  there : (n : Reading) → run r ts ≡ Ok n → settled n ≡ s → (before ≤ 64 → depth ≤ 64) → Leads r ts s before depth
  deep : (at : ℕ) → run r ts ≡ Err (TooDeep at) → 64 < depth → Leads r ts s before depth

pub run_behind : (r n : Reading) (ts us : List Lexeme) → run r ts ≡ Ok n → run r (ts ++ us) ≡ run n us
run_behind r n ts us e = run_append r ts us ∙ ap (λ (o : Result Reading Fault). and_then o (λ m. run m us)) e

module _ (r n s q : Reading) (ts : List Lexeme) (f e d : ℕ) (ran : run r ts ≡ Ok n) (settles : settled n ≡ s) (fits : f ≤ 64 → e ≤ 64) where
  lead_end : Leads s [] q e d → Leads r (ts ++ []) q f d
  lead_end (there m done same more) =
      let whole : s ≡ m = cc in
      there n (run_behind r n ts [] ran) (sym (settled_once n) ∙ ap settled (settles ∙ whole) ∙ same) (λ h. more (fits h))
  lead_end (deep at failed above) = absurd (cc)

  lead_more : (us : List Lexeme) (u : Lexeme) → is_quote u.token ≡ false → Leads s (u ∷ us) q e d → Leads r (ts ++ u ∷ us) q f d
  lead_more us u h (there m done same more) =
      there m (run_behind r n ts (u ∷ us) ran ∙ run_settled n u us h ∙ ap (λ x. run x (u ∷ us)) settles ∙ done) same (λ g. more (fits g))
  lead_more us u h (deep at failed above) =
      deep at (run_behind r n ts (u ∷ us) ran ∙ run_settled n u us h ∙ ap (λ x. run x (u ∷ us)) settles ∙ failed) above

-- some tokens, and others that no string begins
pub lead_on : {r s q : Reading} (ts us : List Lexeme) (f e d : ℕ) → Leads r ts s f e → e ≤ d → Leads s us q e d → NoStringFirst us → Leads r (ts ++ us) q f d
lead_on ts us f e d (deep at failed above) fits after h =
    deep at (run_append _ ts us ∙ ap (λ (o : Result Reading Fault). and_then o (λ m. run m us)) failed) (omega arith)
lead_on {r = r} {s = s} {q = q} ts [] f e d (there n ran settles below) fits after h = lead_end r n s q ts f e d ran settles below after
lead_on {r = r} {s = s} {q = q} ts (u ∷ us) f e d (there n ran settles below) fits after h = lead_more r n s q ts f e d ran settles below us u h after

-- some tokens that are read at once, and others
pub lead_by : {r n q : Reading} (ts us : List Lexeme) (f d : ℕ) → run r ts ≡ Ok n → Leads n us q f d → Leads r (ts ++ us) q f d
lead_by ts us f d ran (there m done same below) = there m (run_behind _ _ ts us ran ∙ done) same below
lead_by ts us f d ran (deep at failed above) = deep at (run_behind _ _ ts us ran ∙ failed) above
