-- What holds of each row of the table of words that are types holds of each of these words.
use Rattle.std.specs.List.{AllByRecursion}
use Rattle.def_tree.specs.TypeTree.{TypeWord, type_words, Int, Uint, Int64, Uint64, Bool', Void, Uint3, This}

pub every_word : (P : TypeWord → Type 0) → AllByRecursion P type_words → (word : TypeWord) → P word
every_word P all Int = all.0
every_word P all Uint = all.1.0
every_word P all Int64 = all.1.1.0
every_word P all Uint64 = all.1.1.1.0
every_word P all Bool' = all.1.1.1.1.0
every_word P all Void = all.1.1.1.1.1.0
every_word P all Uint3 = all.1.1.1.1.1.1.0
every_word P all This = all.1.1.1.1.1.1.1.0
