use Rattle.std.proofs.Common.{◌≡◌, ℕ, List, subst, true}
use Rattle.std.specs.List.{list_all}
use Rattle.def_slang.specs.Name.{is_word_byte}
use Rattle.def_token.specs.Lexeme.{IsPiece, IsRun}
use Rattle.sl_token.specs.Cutting.{class_of}
use Rattle.sl_token.proofs.Lines.{word_in_line}
use Rattle.sl_token.proofs.position.Position.past.Goals as goal

pub along-requires-clause-line : goal.along-requires-clause-line
along-requires-clause-line c =
    let run : IsRun is_word_byte c.args.piece.now = subst (λ class. IsPiece (class_of class) c.args.piece.now) c.in-Word.is c.requires.piece in
    word_in_line c.args.piece.now run.all
