-- The fields that some entries stand for, entry by entry.
use Rattle.std.proofs.Common.{ℕ, ◌≡◌, true, false, Some, None, append-nil, ◌+◌, ◌<◌, List, [], ◌∷◌, ◌++◌, length, take, get_or, refl, ap, sym, ◌∙◌}
use Rattle.std.proofs.lemmas.List.{take_more}
use Rattle.std.proofs.lemmas.List.Elements.{filter_map-append}
use Rattle.std.specs.Str.{bytes_eq}
use Rattle.cy_config.specs.Kinds.{message_of}
use Rattle.cy_config.specs.Lookups.{last_under, all_under, messages_under}
use Rattle.cy_text.specs.Fields.{Fields, Nothing, And}
use Rattle.cy_text.specs.Entries.{and_entries, fields_of, held_of}
use Rattle.cy_text.specs.declared.tree.Entry.{Entry}

-- An entry at the end is a field at the end.
pub and_entries_push : (fields : Fields) (es : List Entry) (e : Entry) → and_entries fields (es ++ e ∷ []) ≡ And (and_entries fields es) e.name e.span (held_of e.value)
and_entries_push fields [] e = refl
and_entries_push fields (x ∷ es) e = and_entries_push (And fields x.name x.span (held_of x.value)) es e

-- One entry more is one field more.
pub one_more : (es : List Entry) (k : ℕ) (e : Entry) → k < length es → e ≡ get_or es k e → fields_of (take (k + 1) es) ≡ And (fields_of (take k es)) e.name e.span (held_of e.value)
one_more es k e there here =
    let front : take (k + 1) es ≡ take k es ++ e ∷ [] = take_more es k e there ∙ ap (λ (x : Entry). take k es ++ x ∷ []) (sym here) in
    ap fields_of front ∙ and_entries_push Nothing (take k es) e

-- The last value under a name, one entry further on.
pub last_here : (name : List ℕ) (es : List Entry) (k : ℕ) (e : Entry) → k < length es → e ≡ get_or es k e → bytes_eq e.name name ≡ true
    → last_under name (fields_of (take (k + 1) es)) ≡ Some (held_of e.value)
last_here name es k e there here is = rw (one_more es k e there here, is) refl

pub last_before : (name : List ℕ) (es : List Entry) (k : ℕ) (e : Entry) → k < length es → e ≡ get_or es k e → bytes_eq e.name name ≡ false
    → last_under name (fields_of (take (k + 1) es)) ≡ last_under name (fields_of (take k es))
last_before name es k e there here is = rw (one_more es k e there here, is) refl

-- The values under a name, one entry further on.
pub all_here : (name : List ℕ) (es : List Entry) (k : ℕ) (e : Entry) → k < length es → e ≡ get_or es k e → bytes_eq e.name name ≡ true
    → all_under name (fields_of (take (k + 1) es)) ≡ all_under name (fields_of (take k es)) ++ held_of e.value ∷ []
all_here name es k e there here is = rw (one_more es k e there here, is) refl

pub all_before : (name : List ℕ) (es : List Entry) (k : ℕ) (e : Entry) → k < length es → e ≡ get_or es k e → bytes_eq e.name name ≡ false
    → all_under name (fields_of (take (k + 1) es)) ≡ all_under name (fields_of (take k es))
all_before name es k e there here is = rw (one_more es k e there here, is) refl

-- The messages under a name, one entry further on.
pub messages_here : (name : List ℕ) (es : List Entry) (k : ℕ) (e : Entry) (fields : Fields) → k < length es → e ≡ get_or es k e → bytes_eq e.name name ≡ true
    → message_of (held_of e.value) ≡ Some fields
    → messages_under name (fields_of (take (k + 1) es)) ≡ messages_under name (fields_of (take k es)) ++ fields ∷ []
messages_here name es k e fields there here is message =
    rw (all_here name es k e there here is, filter_map-append message_of (all_under name (fields_of (take k es))) (held_of e.value ∷ []), message) refl

pub messages_none : (name : List ℕ) (es : List Entry) (k : ℕ) (e : Entry) → k < length es → e ≡ get_or es k e → bytes_eq e.name name ≡ true
    → message_of (held_of e.value) ≡ None
    → messages_under name (fields_of (take (k + 1) es)) ≡ messages_under name (fields_of (take k es))
messages_none name es k e there here is message =
    rw (all_here name es k e there here is, filter_map-append message_of (all_under name (fields_of (take k es))) (held_of e.value ∷ []), message) (append-nil _)

pub messages_before : (name : List ℕ) (es : List Entry) (k : ℕ) (e : Entry) → k < length es → e ≡ get_or es k e → bytes_eq e.name name ≡ false
    → messages_under name (fields_of (take (k + 1) es)) ≡ messages_under name (fields_of (take k es))
messages_before name es k e there here is = rw (all_before name es k e there here is) refl
