-- Where the reader of statements stops, a statement of other tokens with the same front is told no later.
use Rattle.std.proofs.Common.{◌≡◌, ◌⊎◌, inl, inr, ℕ, zero, suc, ◌+◌, ◌<◌, ◌≤◌, true, false, List, [], ◌∷◌, ◌++◌, length, refl, sym, ap, subst, ◌∙◌, arith, le_refl, append-nil, length-append}
use Rattle.std.specs.Prelude.{Option, Some, None, nat_lt}
use Rattle.std.proofs.lemmas.Bool.Decides.{nat_tests}
use Rattle.def_token.specs.Lexical.{Token}
use Rattle.def_tree.specs.Fault.{IsUpTo, code_of, first_spot, spot_of}
use Rattle.def_tree.specs.Limits.{Nesting, Entry, stmt_entries}
use Rattle.def_tree.specs.Statements.{IsStmt}
use Rattle.def_tree.specs.StmtTree.{StmtTree}
use Rattle.law_tree.proofs.StmtsCovered.{stmt_covered}
use Rattle.def_reading.specs.Cursor.{Told, Cursor, At, passed, before, before_by, told_by, FarthestFailure}
use Rattle.def_reading.specs.StmtReading.{stmt_in}
use Rattle.def_reading.specs.Try.{Reads, Stops}
use Rattle.def_reading.specs.TypeReading.{Ended}
use Rattle.law_stmts.proofs.Alien.{agree_back}
use Rattle.law_exprs.proofs.ExprBeside.{front_share}
use Rattle.law_types.proofs.LimitSpots.{spot_with, spot_told, passed_at, told_stays, told_later}
use Rattle.law_machine.proofs.MachineGrows.{less_far, as_far, Above, above}
use Rattle.law_stmts.proofs.StmtAlien.{stmt_stays}
use Rattle.law_stmts.proofs.StmtBeside.{beside_stmt}
use Rattle.law_stmts.proofs.StmtComes.{stmt_is}
use Rattle.law_stmts.proofs.PartTold.{ends_with}
use Rattle.law_exprs.proofs.TryFollows.{Followed, same, ends_here, told, past, Follows}

-- how far a statement that continues so many tokens is told, beside where the reader stops
abbrev pub IsToldBy : Nesting → ℕ → StmtTree → FarthestFailure → Type 0
IsToldBy around many other b = (many < b.many) ⊎ ((b.many ≡ many) × IsUpTo (spot_of many (stmt_entries around other)) (spot_told b.told))

some_told : (this other : Told) → Some this ≡ Some other → this ≡ other
some_told this other h = cc

stops_reads : (stmt : StmtTree) (place : Cursor) (r s : Option FarthestFailure) → Stops r ≡ Reads stmt place s → ⊥
stops_reads stmt place r s h = cc

before_late : (at : ℕ) (limit : Option Told) → ((x : Told) → limit ≡ Some x → at ≤ x.at) → before at limit ≡ None
before_late at None h = refl
before_late at (Some x) h = let late : nat_lt x.at at ≡ false = grind (arith, nat_tests, h x refl) in rw late refl

-- the first limit on the way to a place, by the entries there
pub spot_walk : (es : List Entry) (from many : ℕ) (ts : List Token) (t : Token) (us : List Token) {at' : ℕ} {limit' : Option Told} {ts' : List Token} → many ≤ length ts → many ≤ length es → passed es (At from None ts) ≡ At at' limit' ts'
    → (x : Told) → told_by (before (from + many) limit') (from + many) (t ∷ us) ≡ Some x → first_spot from many es ≡ spot_told x
spot_walk es from zero ts t us {at' = at'} {limit' = limit'} {ts' = ts'} few low is x h =
    let none : before (from + zero) limit' ≡ None =
    before_late (from + zero) limit' (λ y twice. let far = told_later es from ts y (is ∙ ap (λ l. At at' l ts') twice) in omega (arith, far)) in
    let told_is = some_told _ x (sym (ap (λ l. told_by l (from + zero) (t ∷ us)) none) ∙ h) in
    ap (λ n. spot_with n 110) (omega arith) ∙ ap spot_told told_is
spot_walk [] from (suc many) ts t us few low is x h = absurd (omega (arith, low))
spot_walk (e ∷ es) from (suc many) [] t us few low is x h = absurd (omega (arith, few))
spot_walk (None ∷ es) from (suc many) (u ∷ ts) t us {limit' = limit'} few low is x h =
    spot_walk es (suc from) many ts t us (omega (arith, few)) (omega (arith, low)) is x
    (subst (λ n. told_by (before n limit') n (t ∷ us) ≡ Some x) (omega arith) h)
spot_walk (Some l ∷ es) from (suc many) (u ∷ ts) t us {limit' = limit'} few low is x h =
    let first : Told = record { at = from; token = u; code = code_of l } in
    let stays : limit' ≡ Some first = told_stays es (suc from) first ts is in
    let near : nat_lt from (from + suc many) ≡ true = grind (arith, nat_tests) in
    let before_is : before (from + suc many) limit' ≡ Some first = ap (before (from + suc many)) stays ∙ ap (λ b. before_by b first) near in
    ap spot_told (some_told first x (sym (ap (λ l. told_by l (from + suc many) (t ∷ us)) before_is) ∙ h))

-- what is told of a way that ends before a token
pub way_of : (o : Option Told) (many : ℕ) (t : Token) (ts : List Token) → (x : Told) × (told_by o many (t ∷ ts) ≡ Some x)
way_of None many t ts = (record { at = many; token = t; code = 110 }, refl)
way_of (Some x) many t ts = (x, refl)

-- a way to the place, beside where the reader stops
above_told : (around : Nesting) (many : ℕ) (other : StmtTree) (b w : FarthestFailure) → w.many ≡ many → spot_of many (stmt_entries around other) ≡ spot_told w.told → Above w (Some b) → IsToldBy around many other b
above_told around many other b w is spot (above x (less_far h)) = inl (omega (arith, h, is))
above_told around many other b w is spot (above x (as_far h u)) = inr (sym h ∙ is, subst (λ s. IsUpTo s (spot_told b.told)) (sym spot) u)

module _ (around : Nesting) (b : FarthestFailure) (front : List Token) (t : Token) (ts more : List Token) (end : Ended (t ∷ ts)) (other : StmtTree) (rest : List Token) (part : IsStmt (front ++ more) other rest) where
  followed_told : (at : ℕ) (limit : Option Told) → passed (stmt_entries around other) (At 0 None (front ++ more)) ≡ At at limit rest → Followed (t ∷ ts) more (length front) end (Stops (Some b)) other at limit rest → IsToldBy around (length front) other b
  followed_told at limit passes (same k left reach is s look) = absurd (stops_reads other (At at limit left) (Some b) reach look)
  followed_told at limit passes (ends_here stmt l reach up n limits look) = absurd (stops_reads stmt (At (length front) l (t ∷ ts)) (Some b) reach look)
  followed_told at limit passes (told up f) =
      let way = way_of (before (length front) limit) (length front) t ts in
      let w : FarthestFailure = record { many = length front; told = way.0 } in
      let covered = stmt_covered around part in
      let at_is = passed_at (stmt_entries around other) 0 None (front ++ more) (omega (arith, covered)) passes in
      above_told around (length front) other b w refl
      (spot_walk (stmt_entries around other) 0 (length front) (front ++ more) t ts (omega (arith, length-append front more)) (omega (arith, up, at_is)) passes way.0 (subst (λ n. told_by (before n limit) n (t ∷ ts) ≡ Some way.0) (omega arith) way.1))
      (f w (record { many = refl; told = way.1 }))
  followed_told at limit passes (past f) =
      let spot = spot_of (length front) (stmt_entries around other) in
      let w : FarthestFailure = record { many = length front; told = record { at = spot.at; token = t; code = spot.code } } in
      above_told around (length front) other b w refl refl (f w refl)

  told_inside : stmt_in (suc (length (front ++ t ∷ ts))) around None (At 0 None (front ++ t ∷ ts)) ≡ Stops (Some b) → IsToldBy around (length front) other b
  told_inside is =
      let turns' = length (front ++ more) in
      let g = (stmt_is part around turns' (le_refl turns')).comes 0 None None in
      let l = (beside_stmt (t ∷ ts) more (length front) end (suc (length (front ++ t ∷ ts))) turns' around (length front) (omega (arith, length-append front (t ∷ ts)))).local in
      let f : Follows (t ∷ ts) more (length front) end (stmt_in (suc (length (front ++ t ∷ ts))) around None (At 0 None (front ++ t ∷ ts))) (stmt_in turns' around None (At 0 None (front ++ more))) =
      l (length front) 0 None (front ++ t ∷ ts) (front ++ more) None None (le_refl (length front)) (omega arith) (front_share (t ∷ ts) more (length front) end front) tt in
      let f' : Follows (t ∷ ts) more (length front) end (Stops (Some b)) (Reads other (At g.at g.limit rest) g.reach) =
      subst (λ look. Follows (t ∷ ts) more (length front) end look (Reads other (At g.at g.limit rest) g.reach)) is
      (subst (Follows (t ∷ ts) more (length front) end (stmt_in (suc (length (front ++ t ∷ ts))) around None (At 0 None (front ++ t ∷ ts)))) g.is f) in
      followed_told g.at g.limit (g.passes tt) f'.1

pub ended_tail : (front : List Token) (t : Token) (ts : List Token) → Ended (front ++ t ∷ ts) → Ended (t ∷ ts)
ended_tail [] t ts end = end
ended_tail (u ∷ []) t ts end = end
ended_tail (u ∷ v ∷ front) t ts end = ended_tail (v ∷ front) t ts end

-- a statement that continues all tokens with their end is one of these tokens
none_over : (around : Nesting) (tokens more rest : List Token) (other : StmtTree) (b : FarthestFailure) → Ended tokens → stmt_in (suc (length tokens)) around None (At 0 None tokens) ≡ Stops (Some b) → IsStmt (tokens ++ more) other rest → ⊥
none_over around tokens more rest other b end is part =
    let e = ends_with tokens end in
    let stays = stmt_stays e.mark e.is_end part (agree_back (e.agree more)) in
    let g = (stmt_is stays.part around (suc (length tokens)) (omega arith)).comes 0 None None in
    stops_reads other (At g.at g.limit stays.rest') (Some b) g.reach (sym is ∙ g.is)

-- Each statement that continues a front of the tokens is told no later than where the reader stops.
pub others_told : (around : Nesting) (tokens : List Token) (b : FarthestFailure) → Ended tokens → stmt_in (suc (length tokens)) around None (At 0 None tokens) ≡ Stops (Some b)
    → (front tail more rest : List Token) (other : StmtTree) → tokens ≡ front ++ tail → IsStmt (front ++ more) other rest → IsToldBy around (length front) other b
others_told around tokens b end is front [] more rest other are part =
    let all : front ≡ tokens = sym (are ∙ append-nil front) in
    absurd (none_over around tokens more rest other b end is (subst (λ ts. IsStmt (ts ++ more) other rest) all part))
others_told around tokens b end is front (t ∷ ts) more rest other are part =
    told_inside around b front t ts more (ended_tail front t ts (subst Ended are end)) other rest part
    (subst (λ tokens. stmt_in (suc (length tokens)) around None (At 0 None tokens) ≡ Stops (Some b)) are is)
