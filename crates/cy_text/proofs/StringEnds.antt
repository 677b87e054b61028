-- Behind a string, a token that is no string.
use Rattle.std.proofs.Common.{ℕ, ◌≡◌, List, Option, None, Some, Result, Ok, refl, ap, ◌∙◌, subst}
use Rattle.cy_msg.specs.Answer.{AnswersFault, FailsWith}
use Rattle.cy_text.specs.Fault.{fault_in}
use Rattle.cy_text.specs.Fields.{Quote}
use Rattle.cy_text.specs.Form.{Building, Reading, after_string, after_value, placed}
use Rattle.cy_text.specs.Views.{view_reading}
use Rattle.cy_text.specs.declared.building.Reading as code_reading
use Rattle.cy_text.specs.declared.expected.Slot.{Slot}
use Rattle.cy_text.specs.declared.fault.Failure.{Failure}
use Rattle.cy_text.specs.declared.fault.Fault.{Fault}
use Rattle.cy_text.specs.declared.token.Token.{Token}
use Rattle.cy_text.specs.declared.token.Token.TheVariants as token
use Rattle.cy_text.specs.declared.tree.Span.{Span}

no_string : (b : Building) (slot : Slot) (bytes : List ℕ) (end : ℕ) (t : Token) (span : Span) → ((more : List ℕ) → t ≡ token.Quote more → ⊥)
    → after_value (placed b slot end (Quote bytes)) (record { token = t; span = span }) ≡ after_string b slot bytes end (record { token = t; span = span })
unfolding after_string
no_string b slot bytes end (token.Quote more) span never = absurd (never more refl)
no_string b slot bytes end t span never = refl

-- The token is read behind the string that is placed.
pub string_ends : (b : Building) (slot : Slot) (bytes : List ℕ) (end : ℕ) (t : Token) (span : Span) (r : Reading) (result : Result code_reading.Reading Failure)
    → ((more : List ℕ) → t ≡ token.Quote more → ⊥) → ◌≡◌ {A = Result Reading Fault} (Ok (placed b slot end (Quote bytes))) (Ok r) → AnswersFault fault_in view_reading result (after_value r (record { token = t; span = span }))
    → AnswersFault fault_in view_reading result (after_string b slot bytes end (record { token = t; span = span }))
string_ends b slot bytes end t span r result never here answers =
    let same : r ≡ placed b slot end (Quote bytes) = cc in
    subst (AnswersFault fault_in view_reading result) (ap (λ (x : Reading). after_value x (record { token = t; span = span })) same ∙ no_string b slot bytes end t span never) answers

-- What fails where a value is due fails by no fault.
pub no_fault : {A B F : Type 0} (fault : Option F) (x : A) (due : Result B F) → FailsWith fault (Ok x) → FailsWith fault due
no_fault None x due h = tt
no_fault (Some f) x due h = absurd (cc)
