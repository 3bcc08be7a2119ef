-- Signs that join those before them.
use Rattle.std.specs.Prelude.{ℕ, Bool, ◌&&◌, List}
use Rattle.def_token.specs.Lexical.{Token}
use Rattle.def_tree.specs.Symbol.{symbol, touches}
use Rattle.sl_cursor.specs.Signs.{is_text}

-- a token is a sign of this text and touches the one before it
abbrev pub joins_text : List ℕ → Token → Token → Bool
joins_text sign before token = touches before token && is_text sign (symbol token)
