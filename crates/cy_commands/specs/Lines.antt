-- The lines that the program prints where it refuses or fails, and those that tell of messages.
use Rattle.std.specs.Prelude.{ℕ, List, ◌++◌, codes}
use Rattle.std.specs.Fmt.{decimal}

abbrev pub usage_line : List ℕ
usage_line = codes "cyber: the words are not of a known form\n"

abbrev pub memory_line : List ℕ
memory_line = codes "cyber: out of memory\n"

abbrev pub output_line : List ℕ
output_line = codes "cyber: the output failed\n"

-- A file whose call failed.
abbrev pub store_line : List ℕ → List ℕ
store_line name = codes "cyber: " ++ name ++ codes ": the store failed\n"

-- Two numbers, each behind some words.
abbrev pub numbers_line : (front : List ℕ) → ℕ → (words : List ℕ) → ℕ → List ℕ
numbers_line front first words second =
    front ++ decimal first ++ words ++ decimal second ++ codes "\n"

-- How many messages were written, with a further number behind these words.
abbrev pub messages_line : ℕ → (words : List ℕ) → ℕ → List ℕ
messages_line messages words number = numbers_line (codes "done: messages ") messages words number
