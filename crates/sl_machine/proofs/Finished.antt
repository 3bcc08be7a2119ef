-- Forms that a mark ends.
use Rattle.std.proofs.Common.{◌≡◌, ℕ, List, [], ◌∷◌, ◌++◌, map, refl, sym, ap, ◌∙◌}
use Rattle.std.specs.Prelude.{Some}
use Rattle.std.proofs.lemmas.List.{map-append}
use Rattle.def_tree.specs.ExprTree as tree
use Rattle.def_tree.specs.ExprTree.{ExprTree, MoreExprs}
use Rattle.sl_token.specs.View.{token_in}
use Rattle.sl_token.specs.declared.token.Token.{Token}
use Rattle.sl_tree.proofs.Views.{expr_in-Group, expr_in-FunctionalCast, expr_in-Call, expr_in-Index}
use Rattle.sl_tree.specs.View as view
use Rattle.sl_tree.specs.View.{expr_in, word_of}
use Rattle.sl_tree.specs.declared.expressions.ExprTree.{ExprTree as Kept}
use Rattle.sl_tree.specs.declared.expressions.ExprTree.TheVariants as expr
use Rattle.sl_tree.specs.declared.types.TypeWord.{TypeWord}
use Rattle.sl_machine.specs.Finish.{closed, indexed, called}
use Rattle.sl_machine.specs.Framed.{frame_in}
use Rattle.def_reading.specs.Machine as machine
use Rattle.sl_machine.specs.declared.frames.Frame.{Frame}
use Rattle.sl_machine.specs.declared.frames.Frame.TheVariants as frame

-- arguments are the same in both views
exprs_same : (exprs : List ExprTree) → view.exprs_of exprs ≡ machine.exprs_of exprs
exprs_same [] = refl
exprs_same (first ∷ more) = ap (MoreExprs first) (exprs_same more)

pub finish_group : (source : List ℕ) (f : Frame) (opening : Token) (boxed last : Kept) → f ≡ frame.InGroup opening → boxed ≡ last
    → Some (expr_in source (expr.Group opening boxed)) ≡ closed (frame_in source f) (expr_in source last)
finish_group source f opening boxed last is b =
    ap Some (expr_in-Group source opening boxed ∙ ap (λ e. tree.Group (token_in source opening) (expr_in source e)) b)
    ∙ sym (ap (λ g. closed (frame_in source g) (expr_in source last)) is)

pub finish_conversion : (source : List ℕ) (f : Frame) (word : TypeWord) (first : Token) (boxed last : Kept) → f ≡ frame.InFunctionalCast word first → boxed ≡ last
    → Some (expr_in source (expr.FunctionalCast word first boxed)) ≡ closed (frame_in source f) (expr_in source last)
finish_conversion source f word first boxed last is b =
    ap Some (expr_in-FunctionalCast source word first boxed ∙ ap (λ e. tree.FunctionalCast (word_of word) (token_in source first) (expr_in source e)) b)
    ∙ sym (ap (λ g. closed (frame_in source g) (expr_in source last)) is)

call_is : (source : List ℕ) (kept callee : Kept) (opening : Token) (args : List Kept) → kept ≡ callee
    → expr_in source (expr.Call kept opening args) ≡ tree.Call (expr_in source callee) (token_in source opening) (machine.exprs_of (map (expr_in source) args))
call_is source kept callee opening args k =
    expr_in-Call source kept opening args ∙ ap (λ e. tree.Call (expr_in source e) (token_in source opening) (view.exprs_of (map (expr_in source) args))) k
    ∙ ap (tree.Call (expr_in source callee) (token_in source opening)) (exprs_same (map (expr_in source) args))

pub finish_call : (source : List ℕ) (f : Frame) (callee kept : Kept) (opening : Token) (args longer : List Kept) (last : Kept) → f ≡ frame.InCall callee opening args → kept ≡ callee
    → longer ≡ args ++ last ∷ [] → Some (expr_in source (expr.Call kept opening longer)) ≡ closed (frame_in source f) (expr_in source last)
finish_call source f callee kept opening args longer last is k l =
    ap Some (call_is source kept callee opening longer k
    ∙ ap (λ es. tree.Call (expr_in source callee) (token_in source opening) (machine.exprs_of es)) (ap (map (expr_in source)) l ∙ map-append (expr_in source) args (last ∷ [])))
    ∙ sym (ap (λ g. closed (frame_in source g) (expr_in source last)) is)

pub finish_index : (source : List ℕ) (f : Frame) (base kept : Kept) (opening : Token) (boxed last : Kept) → f ≡ frame.InIndex base opening → kept ≡ base → boxed ≡ last
    → Some (expr_in source (expr.Index kept opening boxed)) ≡ indexed (frame_in source f) (expr_in source last)
finish_index source f base kept opening boxed last is k b =
    ap Some (expr_in-Index source kept opening boxed ∙ ap (λ e. tree.Index (expr_in source e) (token_in source opening) (expr_in source boxed)) k
    ∙ ap (λ e. tree.Index (expr_in source base) (token_in source opening) (expr_in source e)) b)
    ∙ sym (ap (λ g. indexed (frame_in source g) (expr_in source last)) is)

pub finish_empty : (source : List ℕ) (f : Frame) (callee kept : Kept) (opening : Token) (args : List Kept) → f ≡ frame.InCall callee opening args → kept ≡ callee → args ≡ []
    → Some (expr_in source (expr.Call kept opening args)) ≡ called (frame_in source f)
finish_empty source f callee kept opening args is k none =
    ap Some (call_is source kept callee opening args k
    ∙ ap (λ es. tree.Call (expr_in source callee) (token_in source opening) (machine.exprs_of (map (expr_in source) es))) none)
    ∙ sym (ap (λ g. called (frame_in source g)) (is ∙ ap (frame.InCall callee opening) none))
