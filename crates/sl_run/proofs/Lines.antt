-- Texts that are put together from pieces.
use Rattle.std.proofs.Common.{◌≡◌, ℕ, List, [], ◌∷◌, ◌++◌, sym, ap, ◌∙◌}
use Rattle.std.proofs.lemmas.List.{append_assoc}
use Rattle.def_reply.specs.Text.{line}

-- three pieces, of which the last ends the line
pub line_of_three : (a b c : List ℕ) → (a ++ b) ++ (c ++ 10 ∷ []) ≡ line (a ++ (b ++ c))
line_of_three a b c = sym (append_assoc (a ++ b) c (10 ∷ [])) ∙ ap line (append_assoc a b c)

-- five pieces, of which the last ends the line
pub line_of_five : (a b c d e : List ℕ) → (((a ++ b) ++ c) ++ d) ++ (e ++ 10 ∷ []) ≡ line (a ++ (b ++ (c ++ (d ++ e))))
line_of_five a b c d e =
    line_of_three ((a ++ b) ++ c) d e
    ∙ ap line (append_assoc (a ++ b) c (d ++ e) ∙ append_assoc a b (c ++ (d ++ e)))
