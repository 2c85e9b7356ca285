-- The words of a job file (document 01, 'Job file and program'): 32 bits, lowest byte first, and their two parts. Assumes nothing.
use Rattle.std.specs.Prelude.{ℕ, ◌+◌, ◌*◌, ◌/◌, ◌%◌, List, map, length, get_or}
use Rattle.views.specs.View.{tabulate}

-- word i, of bytes 4i to 4i + 3
unfoldable pub word_at : List ℕ → ℕ → ℕ
word_at bytes i =
    get_or bytes (i * 4) 0 + get_or bytes (i * 4 + 1) 0 * 256 + get_or bytes (i * 4 + 2) 0 * 65536 + get_or bytes (i * 4 + 3) 0 * 16777216

-- the whole words of a file
unfoldable pub words_of : List ℕ → List ℕ
unfolding word_at
words_of bytes = tabulate (length bytes / 4) (word_at bytes)

-- a word's top 4 bits and its low 28
pub record Word : Type 0 where
  pub kind : ℕ
  pub payload : ℕ

abbrev pub word : ℕ → ℕ → Word
word k v = record { kind = k; payload = v }

abbrev pub split : ℕ → Word
split w = word (w / 268435456) (w % 268435456)

abbrev pub joined : Word → ℕ
joined w = w.kind * 268435456 + w.payload

abbrev pub word_list : List ℕ → List Word
word_list ws = map split ws
