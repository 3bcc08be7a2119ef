-- Tokens, and the table of those behind the first of them.
use Rattle.std.specs.Prelude.{◌≡◌, ℕ, ◌+◌, List, length, drop}
use Rattle.def_token.specs.Lexical as lexical
use Rattle.sl_token.specs.View.{tokens_in}
use Rattle.sl_cursor.specs.Ending.{IsTable, PathEnds}
use Rattle.sl_cursor.specs.declared.ends.End.{End}
use Rattle.sl_look.specs.declared.ahead.Tail.{Tail}

-- the tokens with their texts
abbrev pub lexemes : Tail → List lexical.Token
lexemes tail = tokens_in tail.source.now tail.tokens.now

-- the table is that of the tokens behind the first
pub record IsTail (tail : Tail) : Type 0 where
  pub table : IsTable (lexemes tail) tail.table.now
  pub whole : length tail.table.now ≡ length tail.tokens.now

-- names behind dots that begin behind so many of the tokens end there
pub record IsPathBehind (many : ℕ) (end : End) (tokens : List lexical.Token) : Type 0 where
  pub behind : End
  pub ends : PathEnds behind (drop many tokens)
  pub is : end ≡ record { found = behind.found; many = many + behind.many }
