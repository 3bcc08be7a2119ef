-- What is read of statements is exact, if where the reader stops a statement goes as far and is refused there.
use Rattle.std.proofs.Common.{◌≡◌, ⊎_elim, ℕ, zero, suc, ◌<◌, ◌≤◌, List, [], ◌∷◌, ◌++◌, length, take, drop, refl, sym, ap, subst, ◌∙◌, arith, length-append}
use Rattle.std.specs.Prelude.{Some, None, slice_get}
use Rattle.std.proofs.Math.Seq.{take-append_seam}
use Rattle.def_token.specs.Lexical.{Token}
use Rattle.def_tree.specs.Fault.{spot_of, fault_at, Continues, HasFault}
use Rattle.def_tree.specs.Limits.{Nesting, stmt_entries}
use Rattle.def_tree.specs.Part.{IsStmtPart}
use Rattle.def_tree.specs.Statements.{IsStmt}
use Rattle.def_tree.specs.StmtTree.{StmtTree}
use Rattle.def_reading.specs.Cursor.{At, FarthestFailure}
use Rattle.def_reading.specs.Laws.{IsExact}
use Rattle.def_reading.specs.StmtReading.{stmt_in, stmt_of}
use Rattle.def_reading.specs.Try.{Try, Reads, Stops, read_by}
use Rattle.def_reading.specs.TypeReading.{Ended}
use Rattle.law_types.proofs.LimitSpots.{spot_told}
use Rattle.law_stmts.proofs.StmtFronts.{stops_told}
use Rattle.law_stmts.proofs.StmtOthers.{others_told}
use Rattle.law_stmts.proofs.StmtRead.{whole_is}
use Rattle.law_stmts.proofs.StmtTold.{whole_told}

-- a statement that continues the tokens as far as the reader goes, and is refused where the reader stops
pub record IsReached (around : Nesting) (tokens : List Token) (b : FarthestFailure) : Type 0 where
  pub front : List Token
  pub tail : List Token
  pub more : List Token
  pub rest : List Token
  pub stmt : StmtTree
  pub are : tokens ≡ front ++ tail
  pub many : b.many ≡ length front
  pub part : IsStmt (front ++ more) stmt rest
  pub spot : spot_of (length front) (stmt_entries around stmt) ≡ spot_told b.told
  pub inside : b.told.at < length tokens
  pub stands : slice_get tokens b.told.at ≡ Some b.told.token

take_length : (k : ℕ) (tokens : List Token) → k ≤ length tokens → length (take k tokens) ≡ k
take_length zero tokens h = refl
take_length (suc k) [] h = absurd (omega (arith, h))
take_length (suc k) (t ∷ tokens) h = ap suc (take_length k tokens (omega (arith, h)))

take_drop : (k : ℕ) (tokens : List Token) → tokens ≡ take k tokens ++ drop k tokens
take_drop zero tokens = refl
take_drop (suc k) [] = refl
take_drop (suc k) (t ∷ tokens) = ap (λ ts. t ∷ ts) (take_drop k tokens)

module _ (around : Nesting) (tokens : List Token) (b : FarthestFailure) (end : Ended tokens) (is : stmt_in (suc (length tokens)) around None (At 0 None tokens) ≡ Stops (Some b)) where
  -- no statement goes further than the reader
  none_further : (many : ℕ) → b.many < many → many ≤ length tokens → (other : StmtTree) → Continues IsStmtPart (take many tokens) other → ⊥
  none_further many far inside other goes =
      let long = take_length many tokens inside in
      ⊎_elim (λ h. omega (arith, far, h, long)) (λ h. omega (arith, far, h.0, long))
      (others_told around tokens b end is (take many tokens) (drop many tokens) goes.more goes.rest other (take_drop many tokens) goes.part)

  -- what is told where the reader stops is the fault
  pub stopped_fault : IsReached around tokens b → HasFault IsStmtPart (stmt_entries around) tokens (fault_at b.told.code b.told.token)
  stopped_fault r =
      let taken : take (length r.front) tokens ≡ r.front = ap (take (length r.front)) r.are ∙ take-append_seam r.front r.tail in
      record {
        spot = spot_told b.told;
        refused = record {
          many = length r.front;
          within = omega (arith, ap length r.are, length-append r.front r.tail);
          tree = r.stmt;
          reached = subst (λ ts. Continues IsStmtPart ts r.stmt) (sym taken) (record { more = r.more; rest = r.rest; part = r.part });
          refused = r.spot;
          last = λ other goes.
              ⊎_elim (λ h. absurd (omega (arith, h, r.many))) (λ h. h.1)
              (others_told around tokens b end is r.front r.tail goes.more goes.rest other r.are (subst (λ ts. IsStmt (ts ++ goes.more) other goes.rest) taken goes.part));
          stays = λ more far inside other goes. absurd (none_further more (omega (arith, far, r.many)) inside other goes);
          inside = r.inside;
        };
        token = b.told.token;
        stands = r.stands;
        told = refl;
      }

none_some : (b : FarthestFailure) → None ≡ Some b → ⊥
none_some b h = cc

-- what is read, by what the reader comes to
exact_look : (around : Nesting) (tokens : List Token) → Ended tokens → ((b : FarthestFailure) → stmt_in (suc (length tokens)) around None (At 0 None tokens) ≡ Stops (Some b) → IsReached around tokens b)
    → (look : Try StmtTree) → stmt_in (suc (length tokens)) around None (At 0 None tokens) ≡ look → IsExact IsStmtPart (stmt_entries around) tokens (read_by look)
exact_look around tokens end reached (Reads stmt (At at limit rest) reach) is =
    whole_told around tokens stmt at limit rest reach end (whole_is around tokens stmt at limit rest reach is)
exact_look around tokens end reached (Stops None) is = let told = stops_told (suc (length tokens)) around tokens None end is in absurd (none_some told.0 told.1)
exact_look around tokens end reached (Stops (Some b)) is = stopped_fault around tokens b end is (reached b is)

-- what is read of statements is exact, if such a statement is there wherever the reader stops
pub exact_by : (around : Nesting) (tokens : List Token) → Ended tokens → ((b : FarthestFailure) → stmt_in (suc (length tokens)) around None (At 0 None tokens) ≡ Stops (Some b) → IsReached around tokens b)
    → IsExact IsStmtPart (stmt_entries around) tokens (stmt_of around tokens)
exact_by around tokens end reached = exact_look around tokens end reached (stmt_in (suc (length tokens)) around None (At 0 None tokens)) refl
