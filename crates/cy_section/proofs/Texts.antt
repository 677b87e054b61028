-- A text, and bytes that are none.
use Rattle.std.proofs.Common.{◌≡◌, ℕ, arith, Ok, Err}
use Rattle.std.specs.Str.{IsUtf8, IsValidUpTo}
use Rattle.std.proofs.lemmas.Str.{utf8_valid_len-IsUtf8, utf8_valid_len-IsValidUpTo}
use Rattle.std.proofs.lemmas.Grind.{common_steps}
use Rattle.cy_wire.specs.Message.{WireSpan}
use Rattle.cy_section.specs.declared.error.SectionError.TheVariants.{NameNotText}
use Rattle.cy_section.specs.Reading.{text_of}

pub text_of-text : (span : WireSpan) → IsUtf8 span.bytes → text_of span ≡ Ok span.bytes
unfolding text_of
text_of-text span is = rw (utf8_valid_len-IsUtf8 span.bytes is) (grind (arith, common_steps))

pub text_of-other : (span : WireSpan) (n : ℕ) → IsValidUpTo span.bytes n → text_of span ≡ Err (NameNotText span.start)
unfolding text_of
text_of-other span n upto =
    let short = upto.short in
    rw (utf8_valid_len-IsValidUpTo span.bytes n upto) (grind (arith, common_steps, short))

pub ruleset texts = (text_of-text, text_of-other)
