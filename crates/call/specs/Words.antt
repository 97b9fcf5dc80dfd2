-- The words of calls in lent memory (document 01, "A message word goes to every call of its phase whose span holds it ..").
use Rattle.std.specs.Prelude.{ℕ, ◌+◌, ◌*◌, ◌%◌, ◌^◌, Bool, ◌&&◌, List, [], ◌∷◌, leb, ltb, eqb, length, get_or, take, drop, set}
use Rattle.laws.specs.Choice.{pick, bit_of}
use Rattle.laws.specs.Lists.{place_in, any_of}
use Rattle.sums.specs.Words.{word_bits, undamaged}
use Rattle.packet.specs.declared.heard.Message.{Message}
use Rattle.call.specs.declared.Call.{Call}
use Rattle.call.specs.Calls.{most_calls, most_words, has_vector, numbers_of}

-- what the memory holds for a word that has not come: more than the 21 bits of a word
abbrev pub lacking : ℕ
lacking = 2 ^ word_bits

-- the memory: 85 words for each of eight calls
abbrev pub memory_size : ℕ
memory_size = most_calls * most_words

-- where a call's words begin: the start of its area, of which there are eight
abbrev pub place_of : Call → ℕ
place_of c = c.area % most_calls * most_words

-- a call's words, in the order of the message
abbrev pub words_of : Call → List ℕ → List ℕ
words_of c memory = take c.words (drop (place_of c) memory)

-- 01: "A call is complete when each word has come"; one without message words when its vector has
abbrev pub is_complete : Call → List ℕ → Bool
is_complete c memory = has_vector c && undamaged (words_of c memory)

-- which of a call's words a word number is: 0 for the first
abbrev pub position : Call → ℕ → ℕ
position c word = place_in (numbers_of c) word

-- whether a call is of a message word's phase, and its span holds it
abbrev pub holds_word : Call → Message → Bool
holds_word c m = eqb c.phase m.phase && ltb (position c m.word) (length (numbers_of c))

-- where a message word goes in the memory
abbrev pub word_place : Call → Message → ℕ
word_place c m = place_of c + position c m.word

-- whether a call's span holds a message word that has not come
abbrev pub lacks : Call → Message → List ℕ → Bool
lacks c m memory = holds_word c m && leb lacking (get_or memory (word_place c m) lacking)

-- the memory when the word has been offered to one call: "A word goes to the calls that still lack it"
abbrev pub offered : Call → Message → List ℕ → List ℕ
offered c m memory = pick (lacks c m memory) (set memory (word_place c m) m.bits) memory

-- whether the word completes that call
abbrev pub completes : Call → Message → List ℕ → Bool
completes c m memory = lacks c m memory && is_complete c (offered c m memory)

-- the memory when it has been offered to every call of a row
unfoldable pub given_to : List Call → Message → List ℕ → List ℕ
given_to [] m memory = memory
given_to (c ∷ row) m memory = offered c m (given_to row m memory)

-- the calls that it completes: bit i for the call at place i
unfoldable pub finished : List Call → Message → List ℕ → ℕ
finished [] m memory = 0
finished (c ∷ row) m memory = bit_of (completes c m (given_to row m memory)) + 2 * finished row m memory

-- whether some call's span holds it
abbrev pub is_held : List Call → Message → Bool
is_held row m = any_of (λ c. holds_word c m) row

-- whether some call's span holds a word that the call still lacks
abbrev pub is_lacked : List Call → Message → List ℕ → Bool
is_lacked row m memory = any_of (λ c. lacks c m memory) row
