-- The place behind the first token of a place.
use Rattle.std.proofs.Common.{◌≡◌, ℕ, suc, List, ◌∷◌, ap, ◌∙◌}
use Rattle.std.specs.Option.{option_map}
use Rattle.def_tree.specs.Limits.{plain}
use Rattle.sl_token.specs.View.{tokens_in}
use Rattle.sl_token.specs.declared.token.Token.{Token}
use Rattle.def_reading.specs.Cursor as lists
use Rattle.def_reading.specs.Cursor.{At, advance}
use Rattle.sl_cursor.specs.Seen.{told_in, place_in, IsAfter}
use Rattle.sl_cursor.specs.declared.cursor.Cursor.{Cursor}

-- a place with these tokens
abbrev pub at_tokens : List ℕ → Cursor → List Token → lists.Cursor
at_tokens source place tokens = At place.at (option_map (told_in source) place.limit) (tokens_in source tokens)

-- the place behind the first of these tokens
pub behind_first : (source : List ℕ) (from behind : Cursor) (first : Token) (after : List Token) → from.rest.now ≡ first ∷ after → IsAfter from behind
    → place_in source behind ≡ At (suc from.at) (option_map (told_in source) from.limit) (tokens_in source after)
behind_first source from behind first after is a = a.place source ∙ ap (λ ts. advance plain (at_tokens source from ts)) is
