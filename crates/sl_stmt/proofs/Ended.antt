-- The last tokens of a source are its end.
use Rattle.std.proofs.Common.{◌≡◌, ℕ, zero, suc, ◌<◌, List, [], ◌∷◌, ◌++◌, length, drop, refl, sym, subst, arith}
use Rattle.def_token.specs.Lexical.{Token, HasTokens, token_behind, tokens_among, mark_before}
use Rattle.def_token.specs.Lexical as lexical
use Rattle.def_tree.specs.Symbol.{End, symbol}
use Rattle.def_reading.specs.TypeReading.{Ended}

ended_append : (front : List Token) (last : Token) → symbol last ≡ End → Ended (front ++ last ∷ [])
ended_append [] last is = is
ended_append (t ∷ []) last is = is
ended_append (t ∷ u ∷ front) last is = ended_append (u ∷ front) last is

-- the last tokens of a source are its end
ended_drop : (from : ℕ) (tokens : List Token) → from < length tokens → Ended tokens → Ended (drop from tokens)
ended_drop zero tokens h e = e
ended_drop (suc from) [] h e = absurd e
ended_drop (suc from) (t ∷ []) h e = absurd (omega (arith, h))
ended_drop (suc from) (t ∷ u ∷ tokens) h e = ended_drop from (u ∷ tokens) (omega (arith, h)) e

pub lexed_ended : (text : List ℕ) (tokens : List Token) (from : ℕ) → HasTokens text tokens → from < length tokens → Ended (drop from tokens)
lexed_ended text tokens from h k =
    ended_drop from tokens k (subst Ended (sym h.tokens_are) (ended_append (tokens_among (mark_before text) h.pieces) (token_behind text lexical.End []) refl))
