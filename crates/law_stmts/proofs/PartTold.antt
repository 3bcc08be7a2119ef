-- What is read, with a limit on the way, is refused at the first one.
use Rattle.std.proofs.Common.{◌≡◌, ℕ, zero, suc, ◌+◌, ◌<◌, ◌≤◌, List, [], ◌∷◌, ◌++◌, length, take, refl, sym, ap, subst, ◌∙◌, arith, le_refl, append-nil}
use Rattle.std.specs.Prelude.{Option, Some, None, slice_get}
use Rattle.def_token.specs.Lexical.{Token}
use Rattle.def_tree.specs.Fault.{IsUpTo, at_the_same, code_of, first_spot, spot_of, fault_at, Continues, IsRead, HasFault}
use Rattle.def_tree.specs.Limits.{Entry}
use Rattle.def_tree.specs.Symbol.{End, symbol}
use Rattle.def_reading.specs.Cursor.{Told, At, passed}
use Rattle.def_reading.specs.TypeReading.{Ended}
use Rattle.law_stmts.proofs.Alien.{Agree, at_mark, before}
use Rattle.law_types.proofs.LimitSpots.{spot_told, same_place, told_stays, all_none}

-- the end of tokens, and whatever stands behind it
pub record EndsWith (tokens : List Token) : Type 0 where
  pub mark : Token
  pub is_end : symbol mark ≡ End
  pub agree : (more : List Token) → Agree mark [] more tokens (tokens ++ more)

pub ends_with : (tokens : List Token) → Ended tokens → EndsWith tokens
ends_with [] e = absurd e
ends_with (token ∷ []) e = record { mark = token; is_end = e; agree = λ more. at_mark }
ends_with (token ∷ next ∷ tokens) e =
    let more = ends_with (next ∷ tokens) e in
    record { mark = more.mark; is_end = more.is_end; agree = λ others. before (more.agree others) }

none_some : {A : Type 0} (a : A) → None ≡ Some a → ⊥
none_some a h = cc

some_same : {A : Type 0} (a b : A) → Some a ≡ Some b → a ≡ b
some_same a b h = cc

-- the first limit on the way, where it stands
record Stands (at n : ℕ) (told : Told) (es : List Entry) (ts : List Token) : Type 0 where
  far : ℕ
  is : told.at ≡ at + far
  inside : far < length ts
  token : slice_get ts far ≡ Some told.token
  spot : first_spot at n es ≡ spot_told told

stands : (es : List Entry) (at n : ℕ) (ts : List Token) (told : Told) {at' : ℕ} {ts' : List Token} → length es ≤ length ts → length es ≤ n → passed es (At at None ts) ≡ At at' (Some told) ts' → Stands at n told es ts
stands [] at n ts told few room is = absurd (none_some told (same_place is).1)
stands (e ∷ es) at n [] told few room is = absurd (omega (arith, few))
stands (e ∷ es) at zero (t ∷ ts) told few room is = absurd (omega (arith, room))
stands (None ∷ es) at (suc n) (t ∷ ts) told few room is =
    let s = stands es (suc at) n ts told (omega (arith, few)) (omega (arith, room)) is in
    record { far = suc s.far; is = s.is ∙ omega arith; inside = omega (arith, s.inside); token = s.token; spot = s.spot }
stands (Some l ∷ es) at (suc n) (t ∷ ts) told few room is =
    let same : told ≡ record { at = at; token = t; code = code_of l } = some_same told _ (told_stays es (suc at) (record { at = at; token = t; code = code_of l }) ts is) in
    record {
      far = zero;
      is = ap (λ (x : Told). x.at) same ∙ omega arith;
      inside = omega arith;
      token = ap (λ (x : Told). Some x.token) (sym same);
      spot = ap spot_told (sym same);
    }

take_all : (ts : List Token) → take (length ts) ts ≡ ts
take_all [] = refl
take_all (t ∷ ts) = ap (λ ts. t ∷ ts) (take_all ts)

module _ {Tree : Type 0} (IsPart : List Token → Tree → List Token → Type 0) (entries_of : Tree → List Entry) where
  -- tokens are a tree, and the first limit of its tokens is this
  pub record IsWhole (tokens : List Token) (tree : Tree) (at : ℕ) (limit : Option Told) (rest : List Token) : Type 0 where
    pub part : IsPart tokens tree rest
    pub passes : passed (entries_of tree) (At 0 None tokens) ≡ At at limit rest

  -- a tree has an entry for each of its tokens
  abbrev pub Covered : Type 0
  Covered = (tokens rest : List Token) (tree : Tree) → IsPart tokens tree rest → length tokens ≡ length (entries_of tree) + length rest

  -- tokens begin with no other tree, whatever stands behind their end
  abbrev pub NoOther : Type 0
  NoOther = (tokens more rest behind : List Token) (tree other : Tree) → Ended tokens → IsPart tokens tree rest → IsPart (tokens ++ more) other behind → other ≡ tree

  -- with no limit on the way it is within the limits
  pub whole_read : Covered → (tokens : List Token) (tree : Tree) (at : ℕ) (rest : List Token) → IsWhole tokens tree at None rest → IsRead IsPart entries_of tokens tree rest
  whole_read covered tokens tree at rest w =
      record { part = w.part; limited = all_none (entries_of tree) 0 tokens (omega (arith, covered tokens rest tree w.part)) w.passes }

  -- what is told of a tree over a limit
  pub whole_told : Covered → NoOther → (tokens : List Token) (tree : Tree) (at : ℕ) (told : Told) (rest : List Token) → Ended tokens → IsWhole tokens tree at (Some told) rest
      → HasFault IsPart entries_of tokens (fault_at told.code told.token)
  whole_told covered no_other tokens tree at told rest e w =
      let cover = covered tokens rest tree w.part in
      let s = stands (entries_of tree) 0 (length tokens) tokens told (omega (arith, cover)) (omega (arith, cover)) w.passes in
      let far : told.at ≡ s.far = s.is ∙ omega arith in
      let all : take (length tokens) tokens ≡ tokens = take_all tokens in
      record {
        spot = spot_told told;
        refused = record {
          many = length tokens;
          within = le_refl (length tokens);
          tree = tree;
          reached = subst (λ ts. Continues IsPart ts tree) (sym all) (record { more = []; rest = rest; part = subst (λ ts. IsPart ts tree rest) (sym (append-nil tokens)) w.part });
          refused = s.spot;
          last = λ other c.
              let same = no_other tokens c.more rest c.rest tree other e w.part (subst (λ ts. IsPart (ts ++ c.more) other c.rest) all c.part) in
              subst (λ spot. IsUpTo spot (spot_told told)) (sym (ap (λ tree. spot_of (length tokens) (entries_of tree)) same ∙ s.spot)) (at_the_same refl (le_refl told.code));
          stays = λ more less within other c. absurd (omega (arith, less, within));
          inside = omega (arith, far, s.inside);
        };
        token = told.token;
        stands = ap (slice_get tokens) far ∙ s.token;
        told = refl;
      }
