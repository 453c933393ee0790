-- The value of an operand, as the code has it.
use Rattle.hd_gen.specs.Values.{Words, one, two, three, many, Value, word, listed, doubly_listed, beside_list, other}
use Rattle.hd_gen.specs.declared.value.Value.{Value as ValueNow}
use Rattle.hd_gen.specs.declared.value.Value.TheVariants as values
use Rattle.hd_gen.specs.declared.value.Words.{Words as WordsNow}
use Rattle.hd_gen.specs.declared.value.Words.TheVariants as words

-- words, without where they lie in memory
abbrev pub words_of : WordsNow → Words
words_of (words.One a) = one a.now
words_of (words.Two a b) = two a.now b.now
words_of (words.Three a b c) = three a.now b.now c.now
words_of words.Many = many

-- a value, without where it lies in memory
abbrev pub value_of : ValueNow → Value
value_of (values.Word w) = word w.now
value_of (values.Listed ws) = listed (words_of ws)
value_of (values.DoublyListed ws) = doubly_listed (words_of ws)
value_of (values.BesideList w) = beside_list w.now
value_of values.Other = other
