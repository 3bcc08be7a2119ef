-- Types do not hang on what stands behind them.
use Rattle.std.proofs.Common.{◌≡◌, List, [], ◌∷◌, ◌++◌, length, refl, sym, ap, subst, ◌∙◌, arith, append_assoc, length-append}
use Rattle.def_token.specs.Lexical.{Token}
use Rattle.def_tree.specs.Expressions.{LeadsOn, TakesTypeArgs}
use Rattle.def_tree.specs.Types.{IsPath, ended, dotted, IsType, of_word, of_name, of_generic, IsTypeArgs, type_args, IsTypeList, last_type, more_types}
use Rattle.def_tree.specs.TypeTree.{TypeTree, Named, TypeTrees, MoreTypes}

-- tokens that stand before any others
pub record Stable {A : Type 0} (Whole : List Token → A → List Token → Type 0) (tokens : List Token) (a : A) (rest : List Token) : Type 0 where
  pub piece : List Token
  pub are : tokens ≡ piece ++ rest
  pub stable : (other : List Token) → Whole (piece ++ other) a other

path_stable : {tokens path rest : List Token} → IsPath tokens path rest → Stable IsPath tokens path rest
path_stable ended = record { piece = []; are = refl; stable = λ other. ended }
path_stable (dotted {dot = dot} {name = name} d n p) =
    let more = path_stable p in
    record { piece = dot ∷ name ∷ more.piece; are = ap (λ ts. dot ∷ name ∷ ts) more.are; stable = λ other. dotted d n (more.stable other) }

-- a list with the tokens behind it
record StableList (tokens : List Token) (trees : TypeTrees) (mid : List Token) : Type 0 where
  pub piece : List Token
  are : tokens ≡ piece ++ mid
  stable : (other : List Token) → IsTypeList (piece ++ other) trees other

mutual
  pub type_stable : {tokens rest : List Token} {type : TypeTree} → IsType tokens type rest → Stable IsType tokens type rest
  type_stable (of_word {first = t} h p) =
      let more = path_stable p in record { piece = t ∷ more.piece; are = ap (λ ts. t ∷ ts) more.are; stable = λ other. of_word h (more.stable other) }
  type_stable (of_name {first = t} h p) =
      let more = path_stable p in record { piece = t ∷ more.piece; are = ap (λ ts. t ∷ ts) more.are; stable = λ other. of_name h (more.stable other) }
  type_stable (of_generic {first = t} {path = path} {rest = rest} {args = args} h a p) =
      let inner = args_stable a in
      let more = path_stable p in
      record {
        piece = t ∷ (inner.piece ++ more.piece);
        are = ap (λ ts. t ∷ ts) (inner.are ∙ ap (λ ts. inner.piece ++ ts) more.are ∙ sym (append_assoc inner.piece more.piece rest));
        stable = λ other. subst (λ ts. IsType (t ∷ ts) (Named t args path) other) (sym (append_assoc inner.piece more.piece other)) (of_generic h (inner.stable (more.piece ++ other)) (more.stable other));
      }

  pub args_stable : {tokens rest : List Token} {args : TypeTrees} → IsTypeArgs tokens args rest → Stable IsTypeArgs tokens args rest
  args_stable (type_args {opening = opening} {closing = closing} {rest = rest} {args = args} h l c) =
      let inner = list_stable l in
      record {
        piece = opening ∷ (inner.piece ++ closing ∷ []);
        are = ap (λ ts. opening ∷ ts) (inner.are ∙ sym (append_assoc inner.piece (closing ∷ []) rest));
        stable = λ other. subst (λ ts. IsTypeArgs (opening ∷ ts) args other) (sym (append_assoc inner.piece (closing ∷ []) other)) (type_args h (inner.stable (closing ∷ other)) c);
      }

  list_stable : {tokens mid : List Token} {trees : TypeTrees} → IsTypeList tokens trees mid → StableList tokens trees mid
  list_stable (last_type t) = let first = type_stable t in record { piece = first.piece; are = first.are; stable = λ other. last_type (first.stable other) }
  list_stable (more_types {comma = comma} {rest = rest} {type = type} {types = trees} t h l) =
      let first = type_stable t in
      let more = list_stable l in
      record {
        piece = first.piece ++ comma ∷ more.piece;
        are = first.are ∙ ap (λ ts. first.piece ++ comma ∷ ts) more.are ∙ sym (append_assoc first.piece (comma ∷ more.piece) rest);
        stable = λ other. subst (λ ts. IsTypeList ts (MoreTypes type trees) other) (sym (append_assoc first.piece (comma ∷ more.piece) other)) (more_types (first.stable (comma ∷ (more.piece ++ other))) h (more.stable other));
      }

-- of two lists with one end the fronts are one
pub cancel : {A : Type 0} (front other behind : List A) → front ++ behind ≡ other ++ behind → front ≡ other
cancel [] [] behind h = refl
cancel [] (b ∷ other) behind h = absurd (omega (arith, ap length h, length-append other behind))
cancel (a ∷ front) [] behind h = absurd (omega (arith, ap length h, length-append front behind))
cancel (a ∷ front) (b ∷ other) behind h =
    let first : a ≡ b = cc in
    let more : front ++ behind ≡ other ++ behind = cc in
    ap (λ x. x ∷ front) first ∙ ap (λ xs. b ∷ xs) (cancel front other behind more)

-- type arguments stand before any tokens that lead on
pub takes_stable : {args : TypeTrees} (front : List Token) (lead : Token) (tail other : List Token) → TakesTypeArgs (front ++ lead ∷ tail) args (lead ∷ tail) → TakesTypeArgs (front ++ lead ∷ other) args (lead ∷ other)
takes_stable {args = args} front lead tail other t =
    let s = args_stable t.arguments in
    let same = cancel front s.piece (lead ∷ tail) s.are in
    let first : t.next ≡ lead = let h = t.rest_is in cc in
    record {
      next = lead;
      behind = other;
      rest_is = refl;
      arguments = subst (λ ts. IsTypeArgs (ts ++ lead ∷ other) args (lead ∷ other)) (sym same) (s.stable (lead ∷ other));
      leads = subst LeadsOn first t.leads;
    }
