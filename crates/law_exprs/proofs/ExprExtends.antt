-- An expression in front of tokens that end does not hang on what stands behind their end.
use Rattle.std.proofs.Common.{◌≡◌, ℕ, Bool, true, false, List, [], ◌∷◌, ◌++◌, refl, sym, ap, subst, ◌∙◌, codes, append_assoc}
use Rattle.std.specs.Prelude.{Option, None, ◌||◌}
use Rattle.std.specs.List.{list_any}
use Rattle.std.specs.Str.{bytes_eq}
use Rattle.std.proofs.lemmas.Bool.{false≢true}
use Prim.Native.String.{String}
use Rattle.def_token.specs.Lexical.{Token}
use Rattle.def_tree.specs.ExprTree.{ExprTree}
use Rattle.def_tree.specs.Expressions.{TakesTypeArgs, TakesNone, IsExpr}
use Rattle.def_tree.specs.Operator.{Operator, operators, operator_text, after_one, after_two, joins}
use Rattle.def_tree.specs.Part.{expr_goes_on, signs_behind, IsExprPart}
use Rattle.def_tree.specs.Statements.{begins_with}
use Rattle.def_tree.specs.Symbol.{End, symbol, is_sign}
use Rattle.def_tree.specs.TypeTree.{TypeTrees}
use Rattle.def_tree.specs.Types.{IsTypeArgs}
use Rattle.law_tree.proofs.OperatorSigns.{sign_by}
use Rattle.law_tree.proofs.Symbols.{is_sign-true}
use Rattle.def_reading.specs.Cursor.{Told}
use Rattle.def_reading.specs.TypeReading.{Ended}
use Rattle.law_types.proofs.AheadFaults.{none_dies, dead_none}
use Rattle.law_types.proofs.AheadKept.{ended_front}
use Rattle.law_types.proofs.AheadSound.{none_without}
use Rattle.law_types.proofs.AheadStages.{Dies, ended_alive}
use Rattle.law_exprs.proofs.ExprStands.{expr_stands, no_lead}
use Rattle.law_machine.proofs.MachineKinds.{sign_no_end}
use Rattle.law_machine.proofs.SignsBehind.{two_by, one_by}
use Rattle.law_machine.proofs.SignParts.{joins_no_end}
use Rattle.law_types.proofs.Stopping.{ended_behind}
use Rattle.law_types.proofs.TypeStable.{args_stable}
use Rattle.law_types.proofs.TypeStages.{Head}

-- type arguments before tokens that end
takes_front : {tokens rest : List Token} {args : TypeTrees} → TakesTypeArgs tokens args rest → Ended rest → Ended tokens
takes_front {rest = rest} t end = let s = args_stable t.arguments in subst Ended (sym s.are) (ended_front s.piece rest end)

module _ (more : List Token) where
  takes_extends : {tokens rest : List Token} {args : TypeTrees} → TakesTypeArgs tokens args rest → TakesTypeArgs (tokens ++ more) args (rest ++ more)
  takes_extends {tokens = tokens} {rest = rest} {args = args} t =
      let s = args_stable t.arguments in
      record {
        next = t.next;
        behind = t.behind ++ more;
        rest_is = ap (λ ts. ts ++ more) t.rest_is;
        arguments = subst (λ ts. IsTypeArgs ts args (rest ++ more)) (sym (ap (λ ts. ts ++ more) s.are ∙ append_assoc s.piece rest more)) (s.stable (rest ++ more));
        leads = t.leads;
      }

  dies_extends : (opening : Token) (ts : List Token) (at' : ℕ) (limit' : Option Told) (left : List Token) → (d : Dies (Head 0 0) 1 None ts at' limit' left) → Ended left → TakesNone (opening ∷ (ts ++ more))
  dies_extends opening ts at' limit' [] d end = absurd end
  dies_extends opening ts at' limit' (t ∷ others) d end =
      subst (λ ts. TakesNone (opening ∷ ts)) (sym (ap (λ ts. ts ++ more) d.alive.are ∙ append_assoc d.alive.piece (t ∷ others) more)) (dead_none opening t others (others ++ more) d refl)

  none_by : (l : Bool) (opening : Token) (ts : List Token) → is_sign "<" (symbol opening) ≡ l → Ended (opening ∷ ts) → TakesNone (opening ∷ ts) → TakesNone (opening ∷ (ts ++ more))
  none_by true opening ts l end none =
      let less = is_sign-true "<" (symbol opening) l in
      let d = none_dies 0 0 None opening ts less end none in
      dies_extends opening ts d.0 d.1 d.2 d.3 (ended_alive d.3.alive (ended_behind opening ts (sign_no_end opening _ less) end))
  none_by false opening ts l end none = none_without (opening ∷ (ts ++ more)) l

  none_extends : (rest : List Token) → Ended rest → TakesNone rest → TakesNone (rest ++ more)
  none_extends [] end none = absurd end
  none_extends (opening ∷ ts) end none = none_by (is_sign "<" (symbol opening)) opening ts refl end none

  -- what does not go on with an expression
  greater_end : (t : Token) → is_sign ">" (symbol t) ≡ true → symbol t ≡ End → ⊥
  greater_end t g e = false≢true (sym (ap (is_sign ">") e) ∙ g)

  two_text : (p : Token) (ts : List Token) → Ended (p ∷ ts) → (symbol p ≡ End → ⊥) → (after_two p (ts ++ more)).0 ≡ (after_two p ts).0
  two_text p [] end no_end = absurd (no_end end)
  two_text p (q ∷ ts) end no_end = two_same (joins p "=" q) q ts
    where
      two_same : (b : Bool) (q : Token) (ts : List Token) → (two_by b q (ts ++ more)).0 ≡ (two_by b q ts).0
      two_same true q ts = refl
      two_same false q ts = refl

  one_text_by : (shifts equals : Bool) (t p : Token) (ts : List Token) → joins t ">" p ≡ shifts → Ended (p ∷ ts) → (one_by shifts equals p (ts ++ more)).0 ≡ (one_by shifts equals p ts).0
  one_text_by true equals t p ts j end = two_text p ts end (joins_no_end t p ">" j)
  one_text_by false true t p ts j end = refl
  one_text_by false false t p ts j end = refl

  one_text : (t : Token) (ts : List Token) → Ended (t ∷ ts) → is_sign ">" (symbol t) ≡ true → (after_one t (ts ++ more)).0 ≡ (after_one t ts).0
  one_text t [] end g = absurd (greater_end t g end)
  one_text t (p ∷ ts) end g = one_text_by (joins t ">" p) (joins t "=" p) t p ts refl end

  text_by : (b : Bool) (t : Token) (ts : List Token) → Ended (t ∷ ts) → is_sign ">" (symbol t) ≡ b → (sign_by b t (ts ++ more)).0 ≡ (sign_by b t ts).0
  text_by true t ts end g = one_text t ts end g
  text_by false t ts end g = refl

  goes_on_extends : (rest : List Token) → Ended rest → expr_goes_on rest ≡ false → expr_goes_on (rest ++ more) ≡ false
  goes_on_extends [] end h = absurd end
  goes_on_extends (t ∷ ts) end h =
      ap (λ (text : List ℕ). list_any (λ (operator : Operator). bytes_eq text (codes (operator_text operator))) operators || list_any (λ (sign : String). begins_with sign (t ∷ ts)) signs_behind)
      (text_by (is_sign ">" (symbol t)) t ts end refl) ∙ h

  -- an expression before tokens that go on behind their end
  pub part_extends : {tokens rest : List Token} {e : ExprTree} → IsExprPart tokens e rest → Ended rest → IsExprPart (tokens ++ more) e (rest ++ more)
  part_extends {rest = rest} {e = e} p end =
      let s = expr_stands p.tree end (no_lead rest p.ended) in
      record {
        tree = subst (λ ts. IsExpr ts e (rest ++ more)) (sym (ap (λ ts. ts ++ more) s.are ∙ append_assoc s.piece rest more))
            (s.stands (rest ++ more) (λ mid e n. subst TakesNone (append_assoc mid rest more) (none_extends (mid ++ rest) e n)));
        ended = goes_on_extends rest end p.ended;
      }
