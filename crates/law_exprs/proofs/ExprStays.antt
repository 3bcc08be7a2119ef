-- An expression in front of a semicolon does not hang on what stands behind the semicolon.
use Rattle.std.proofs.Common.{◌≡◌, Bool, true, false, List, [], ◌∷◌, ◌++◌, refl, sym, ap, subst, ◌∙◌, codes, append_assoc}
use Rattle.std.proofs.lemmas.Bool.{false≢true, and_parts}
use Prim.Native.String.{String}
use Rattle.def_token.specs.Lexical.{Token}
use Rattle.def_tree.specs.ExprTree.{ExprTree}
use Rattle.def_tree.specs.Expressions.{IsExpr}
use Rattle.def_tree.specs.Operator.{joins}
use Rattle.def_tree.specs.Part.{expr_goes_on, IsExprPart}
use Rattle.def_tree.specs.Symbol.{Sign, symbol, is_sign, Is, touches}
use Rattle.law_tree.proofs.Symbols.{is_sign-true}
use Rattle.def_reading.specs.TypeReading.{Ended}
use Rattle.law_types.proofs.AheadFaults.{heads}
use Rattle.law_exprs.proofs.ExprWays.{goes_same, assign_goes, greater_assigns, assign_parts}
use Rattle.law_exprs.proofs.ExprStands.{expr_stands, no_lead}
use Rattle.law_exprs.proofs.Quiet.{quiet, kept_front, kept_quiet}
use Rattle.law_machine.proofs.SignsBehind.{IsAssignment}

-- The tokens up to a semicolon, and before others behind it too.
pub record Stays (semicolon : Token) (x y : List Token) (P : List Token → Type 0) (tokens : List Token) : Type 0 where
  pub front : List Token
  pub are : tokens ≡ front ++ semicolon ∷ x
  pub other : P (front ++ semicolon ∷ y)

module _ (semicolon : Token) (x y : List Token) (semi : Is ";" semicolon) where
  other_sign : (sign : String) → is_sign sign (Sign (codes ";")) ≡ false → is_sign sign (symbol semicolon) ≡ false
  other_sign sign h = ap (is_sign sign) semi ∙ h

  no_join_by : (b : Bool) (t : Token) (sign : String) → is_sign sign (Sign (codes ";")) ≡ false → joins t sign semicolon ≡ b → b ≡ false
  no_join_by false t sign h is = refl
  no_join_by true t sign h is = absurd (false≢true (sym (other_sign sign h) ∙ (and_parts (touches t semicolon) (is_sign sign (symbol semicolon)) is).1))

  -- a semicolon joins no mark
  no_join : (t : Token) (sign : String) → is_sign sign (Sign (codes ";")) ≡ false → joins t sign semicolon ≡ false
  no_join t sign h = no_join_by (joins t sign semicolon) t sign h refl

  -- nothing goes on in the front
  assign_stays : (p : Token) (front : List Token) → IsAssignment p (front ++ semicolon ∷ x) → expr_goes_on (p ∷ (front ++ semicolon ∷ y)) ≡ false
  assign_stays p [] a =
      let first = (heads semicolon a.second x (a.third ∷ a.others) a.are).0 in
      absurd (false≢true (sym (no_join p ">" refl) ∙ ap (joins p ">") first ∙ a.shifts))
  assign_stays p (q ∷ []) a =
      let first = heads q a.second (semicolon ∷ x) (a.third ∷ a.others) a.are in
      let second = (heads semicolon a.third x a.others first.1).0 in
      absurd (false≢true (sym (no_join a.second "=" refl) ∙ ap (joins a.second "=") second ∙ a.assigns))
  assign_stays p (q ∷ r ∷ front) a =
      let first = heads q a.second (r ∷ (front ++ semicolon ∷ x)) (a.third ∷ a.others) a.are in
      let second = (heads r a.third (front ++ semicolon ∷ x) a.others first.1).0 in
      assign_goes p q r (front ++ semicolon ∷ y) a.first (ap (joins p ">") first.0 ∙ a.shifts) (ap (λ q. joins q "=" r) first.0 ∙ ap (joins a.second "=") second ∙ a.assigns)

  goes_by : (b : Bool) (p : Token) (front : List Token) → is_sign ">" (symbol p) ≡ b → expr_goes_on (p ∷ (front ++ semicolon ∷ x)) ≡ false → expr_goes_on (p ∷ (front ++ semicolon ∷ y)) ≡ false
  goes_by true p front g h = assign_stays p front (assign_parts p (front ++ semicolon ∷ x) (greater_assigns p (front ++ semicolon ∷ x) (is_sign-true ">" (symbol p) g) h))
  goes_by false p front g h = goes_same p (front ++ semicolon ∷ y) (front ++ semicolon ∷ x) g ∙ h

  -- nothing goes on with an expression before other tokens behind the semicolon either
  pub goes_stays : (front : List Token) → expr_goes_on (front ++ semicolon ∷ x) ≡ false → expr_goes_on (front ++ semicolon ∷ y) ≡ false
  goes_stays [] h = rw semi refl
  goes_stays (p ∷ front) h = goes_by (is_sign ">" (symbol p)) p front refl h

  -- an expression before a semicolon
  pub expr_stays : {tokens : List Token} {e : ExprTree} (behind : List Token) → IsExprPart tokens e (behind ++ semicolon ∷ x) → Ended (behind ++ semicolon ∷ x) → Stays semicolon x y (λ ts. IsExprPart ts e (behind ++ semicolon ∷ y)) tokens
  expr_stays {e = e} behind part end =
      let s = expr_stands part.tree end (no_lead (behind ++ semicolon ∷ x) part.ended) in
      let kept = kept_front behind (semicolon ∷ x) (semicolon ∷ y) (kept_quiet (semicolon ∷ x) semicolon y (ap quiet semi)) in
      record {
        front = s.piece ++ behind;
        are = s.are ∙ sym (append_assoc s.piece behind (semicolon ∷ x));
        other = record {
          tree = subst (λ ts. IsExpr ts e (behind ++ semicolon ∷ y)) (sym (append_assoc s.piece behind (semicolon ∷ y))) (s.stands (behind ++ semicolon ∷ y) kept);
          ended = goes_stays behind part.ended;
        };
      }
