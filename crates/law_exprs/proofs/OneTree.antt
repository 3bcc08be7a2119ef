-- Tokens begin with one tree at most, since each is what one function reads.
use Rattle.std.proofs.Common.{◌≡◌, List, true, sym, ap, ◌∙◌, refl}
use Rattle.std.specs.Prelude.{Option, None}
use Rattle.def_token.specs.Lexical.{Token}
use Rattle.def_tree.specs.Fault.{AtMostOne}
use Rattle.def_tree.specs.Limits.{Entry, all_open}
use Rattle.def_tree.specs.Part.{IsTypePart, IsExprPart}
use Rattle.def_reading.specs.Cursor.{Cursor, At, FarthestFailure}
use Rattle.def_reading.specs.Try.{Reads, Reader, ahead, expr_in, type_in}
use Rattle.law_exprs.proofs.ExprComes.{expr_is, type_is}
use Rattle.law_exprs.proofs.TryComes.{Comes}

read_tree : {A : Type 0} (a b : A) (p q : Cursor) (r s : Option FarthestFailure) → Reads a p r ≡ Reads b q s → a ≡ b
read_tree a b p q r s h = cc

read_place : {A : Type 0} (a b : A) (p q : Cursor) (r s : Option FarthestFailure) → Reads a p r ≡ Reads b q s → p ≡ q
read_place a b p q r s h = cc

-- a reader that comes to two trees comes to one
pub one_reading : {A : Type 0} (reader : Reader A) (tokens rest behind : List Token) (this other : A) (entries more : List Entry)
    → Comes reader tokens this entries rest → Comes reader tokens other more behind → (this ≡ other) × (rest ≡ behind)
one_reading reader tokens rest behind this other entries more p q =
    let g = p.comes 0 None None in
    let k = q.comes 0 None None in
    let same = sym g.is ∙ k.is in (
      read_tree this other (At g.at g.limit rest) (At k.at k.limit behind) g.reach k.reach same,
      ap ahead (read_place this other (At g.at g.limit rest) (At k.at k.limit behind) g.reach k.reach same),
    )

pub one_expr : AtMostOne IsExprPart
one_expr tokens rest behind this other p q =
    one_reading (expr_in true (all_open 0)) tokens rest behind this other _ _
    (expr_is true (all_open 0) p.tree p.ended refl) (expr_is true (all_open 0) q.tree q.ended refl)

pub one_type : AtMostOne IsTypePart
one_type tokens rest behind this other p q =
    one_reading (type_in (all_open 0)) tokens rest behind this other _ _
    (type_is (all_open 0) p.tree p.ended) (type_is (all_open 0) q.tree q.ended)
