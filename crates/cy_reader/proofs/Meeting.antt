-- Messages and sections that are met one after another.
use Rattle.std.proofs.Common.{◌≡◌, ◌+◌, ℕ, suc, List, [], ◌∷◌, ◌++◌, length, refl, sym, ap, subst, ◌∙◌, append_assoc, append-nil, inl, inr, Option, Some, None, Result, Ok, Err}
use Rattle.cy_section.specs.declared.error.SectionError.{SectionError}
use Rattle.cy_section.specs.declared.types.Channel.{Channel}
use Rattle.cy_section.specs.declared.types.SectionKind.TheVariants as kind
use Rattle.cy_section.specs.Reading.{PlacedMessage, Messages, with_message, channel_at}
use Rattle.cy_reader.specs.declared.known.Known.{Known}
use Rattle.cy_reader.specs.declared.error.LoadError.{LoadError}
use Rattle.cy_cut.specs.Sections.{WholeSection, Sections, section_at, sections_in, and_those_behind}
use Rattle.cy_reader.specs.Record.{◌>>=◌, fault_of, Met, channel_given, channel_met, add_message, messages_met, add_body, add_section, add_sections}
use Rattle.cy_reader.specs.private.Loading.{Leads, unless_ended}

messages_met-append : (xs ys : List PlacedMessage) (c : Met) → messages_met (xs ++ ys) c ≡ messages_met xs c >>= messages_met ys
messages_met-append [] ys c = refl
messages_met-append (m ∷ xs) ys c = over (add_message m c) (messages_met-append xs ys)
  where
    over : (r : Result Met LoadError) → ((d : Met) → messages_met (xs ++ ys) d ≡ messages_met xs d >>= messages_met ys)
        → r >>= messages_met (xs ++ ys) ≡ (r >>= messages_met xs) >>= messages_met ys
    over (Ok d) f = f d
    over (Err e) f = refl

one_met : (front : List PlacedMessage) (m : PlacedMessage) (rest : List PlacedMessage) (start old : Met) → messages_met front start ≡ Ok old
    → messages_met ((front ++ m ∷ []) ++ rest) start ≡ add_message m old >>= messages_met rest
one_met front m rest start old e =
    ap (λ (ms : List PlacedMessage). messages_met ms start) (append_assoc front (m ∷ []) rest) ∙ messages_met-append front (m ∷ rest) start
    ∙ ap (λ (r : Result Met LoadError). r >>= messages_met (m ∷ rest)) e

-- one more message is met
pub met_more : (front : List PlacedMessage) (m : PlacedMessage) (start old now : Met) → messages_met front start ≡ Ok old → add_message m old ≡ Ok now
    → messages_met (front ++ m ∷ []) start ≡ Ok now
met_more front m start old now met one =
    ap (λ (ms : List PlacedMessage). messages_met ms start) (sym (append-nil (front ++ m ∷ []))) ∙ one_met front m [] start old met ∙ ap (λ (r : Result Met LoadError). r >>= messages_met []) one

-- or a limit is passed, whatever follows, unless a fault does
pub limit_met : (front : List PlacedMessage) (m : PlacedMessage) (left next all : Messages) (start old now : Met) (e : LoadError) → messages_met front start ≡ Ok old
    → front ++ left.messages ≡ all.messages → left ≡ with_message m next → Leads {A = Unit {0}} (Err e) now (add_message m old)
    → Leads {A = Unit {0}} (Err e) now (messages_met all.messages start)
limit_met front m left next all start old now e met parts is (inl memory) = inl memory
limit_met front m left next all start old now e met parts is (inr passed) = inr (
    ap (λ (ms : List PlacedMessage). messages_met ms start) (sym parts ∙ ap (λ (l : Messages). front ++ l.messages) is ∙ sym (append_assoc front (m ∷ []) next.messages))
    ∙ one_met front m next.messages start old met ∙ ap (λ (r : Result Met LoadError). r >>= messages_met next.messages) passed)

-- .. of which there is none where all messages were read
pub unless_faulty : (fault : Option SectionError) (all : Messages) (e : LoadError) (start now : Met) → fault ≡ all.fault → unless_ended fault ≡ Ok tt
    → Leads {A = Unit {0}} (Err e) now (messages_met all.messages start) → Leads {A = Unit {0}} (Err e) now (add_body all.fault all.messages start)
unless_faulty None all e start now is ended leads = subst (λ (f : Option SectionError). Leads {A = Unit {0}} (Err e) now (add_body f all.messages start)) is leads
unless_faulty (Some fault) all e start now is ended leads = absurd cc

-- what the sections that are left come to
abbrev pub finish : Met → Sections → Result Met LoadError
finish now left = add_sections left.sections left.fault now

pub section_read : (file : List ℕ) (more at : ℕ) (s : WholeSection) (now next : Met) (whole : Result Met LoadError) → section_at file at ≡ Ok (Some s)
    → add_section s now ≡ Ok next → finish now (sections_in (suc more) file at) ≡ whole → finish next (sections_in more file (s.body_at + length s.body)) ≡ whole
unfolding sections_in
section_read file more at s now next whole e read so_far =
    let rest = sections_in more file (s.body_at + length s.body) in
    sym (ap (λ (r : Result Met LoadError). r >>= add_sections rest.sections rest.fault) read)
    ∙ sym (ap (λ (r : Result (Option WholeSection) SectionError). finish now (and_those_behind r (λ next. sections_in more file next))) e) ∙ so_far

pub section_wrong : (file : List ℕ) (more at : ℕ) (s : WholeSection) (now : Met) (e : LoadError) (whole : Result Met LoadError) → section_at file at ≡ Ok (Some s)
    → add_section s now ≡ Err e → finish now (sections_in (suc more) file at) ≡ whole → whole ≡ Err e
unfolding sections_in
section_wrong file more at s now e whole found read so_far =
    let rest = sections_in more file (s.body_at + length s.body) in
    sym so_far ∙ ap (λ (r : Result (Option WholeSection) SectionError). finish now (and_those_behind r (λ next. sections_in more file next))) found
    ∙ ap (λ (r : Result Met LoadError). r >>= add_sections rest.sections rest.fault) read

pub sections_end : (file : List ℕ) (more at : ℕ) (now : Met) (whole : Result Met LoadError) → section_at file at ≡ Ok None
    → finish now (sections_in (suc more) file at) ≡ whole → whole ≡ Ok now
unfolding sections_in
sections_end file more at now whole found so_far =
    sym so_far ∙ ap (λ (r : Result (Option WholeSection) SectionError). finish now (and_those_behind r (λ next. sections_in more file next))) found

pub sections_fault : (file : List ℕ) (more at : ℕ) (now : Met) (fault : SectionError) (whole : Result Met LoadError) → section_at file at ≡ Err fault
    → finish now (sections_in (suc more) file at) ≡ whole → whole ≡ Err (fault_of fault)
unfolding sections_in
sections_fault file more at now fault whole found so_far =
    sym so_far ∙ ap (λ (r : Result (Option WholeSection) SectionError). finish now (and_those_behind r (λ next. sections_in more file next))) found

-- the section of a channel
pub channel_section : (s : WholeSection) (c : Channel) (contents : Met) → s.kind ≡ kind.Channel → channel_at s.body_at s.body ≡ Ok c → add_section s contents ≡ channel_met c contents
unfolding add_section
channel_section s c contents is read = rw (is, read) refl

pub channel_leads : (r : Result (Unit {0}) LoadError) (c : Channel) (contents : Met) (channels : List Known) → Leads r channels (channel_given c contents.channels)
    → Leads r (let now : Met = record { channels = channels; messages = contents.messages } in now) (channel_met c contents)
unfolding channel_met
channel_leads (Ok x) c contents channels given = rw given refl
channel_leads (Err e) c contents channels (inl memory) = inl memory
channel_leads (Err e) c contents channels (inr wrong) = inr (rw wrong refl)
