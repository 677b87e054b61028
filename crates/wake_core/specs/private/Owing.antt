-- What the calls of a world change of what a thread owes.
use Rattle.std.specs.Prelude.{ℕ, ◌+◌, ◌≡◌, ◌<◌, Bool, List, [], ◌∷◌, ◌++◌, length, if◌then◌else◌}
use Rattle.std.specs.Prelude.{◌≤◌, ◌==◌, vec_capacity}
use Rattle.cy_msg.specs.declared.token.Token.{Token}
use Rattle.wake_core.specs.declared.owed.Owed.{Owed}

-- There is news that was not looked at, and room for one more whose flag is to be cleared.
pub record MayLookAt (o : Owed) : Type 0 where
  pub some : o.looked < length o.news.items
  pub room : length o.clearing.items < vec_capacity o.clearing

-- The first of the news was looked at; one that waits is to have its flag cleared.
pub record LookedAt (component : ℕ) (waits : Bool) (o n : Owed) : Type 0 where
  pub token : n.token ≡ o.token
  pub fills : n.fills ≡ o.fills
  pub news : n.news ≡ o.news
  pub looked : n.looked ≡ o.looked + 1
  pub clearing : n.clearing.items
      ≡ (if waits then o.clearing.items ++ component ∷ [] else o.clearing.items)
  pub room : vec_capacity n.clearing ≡ vec_capacity o.clearing

-- A component's flag is no longer to be cleared.
pub record IsTakenOut (component : ℕ) (o n : Owed) : Type 0 where
  pub token : n.token ≡ o.token
  pub fills : n.fills ≡ o.fills
  pub news : n.news ≡ o.news
  pub looked : n.looked ≡ o.looked
  pub before : List ℕ
  pub after : List ℕ
  pub there : o.clearing.items ≡ before ++ component ∷ after
  pub left : n.clearing.items ≡ before ++ after
  pub room : vec_capacity n.clearing ≡ vec_capacity o.clearing

-- A thread has to fill so many readers with a message, and has told nobody of it.
pub record HasToFill (t : Token) (count : ℕ) (o n : Owed) : Type 0 where
  pub token : n.token ≡ t
  pub fills : n.fills ≡ count
  pub news : n.news.items ≡ []
  pub looked : n.looked ≡ 0
  pub clearing : n.clearing ≡ o.clearing
  pub room : vec_capacity n.news ≡ vec_capacity o.news

-- There is a reader to be filled, and room for one more component that is told.
pub record MayFillFirst (o : Owed) : Type 0 where
  pub some : 1 ≤ o.fills
  pub room : length o.news.items < vec_capacity o.news

-- One reader less is to be filled; where it was a component's first, the component is told.
pub record FilledFirst (component role : ℕ) (o n : Owed) : Type 0 where
  pub token : n.token ≡ o.token
  pub fills : n.fills + 1 ≡ o.fills
  pub news : n.news.items ≡ (if role == 0 then o.news.items ++ component ∷ [] else o.news.items)
  pub looked : n.looked ≡ o.looked
  pub clearing : n.clearing ≡ o.clearing
  pub room : vec_capacity n.news ≡ vec_capacity o.news
