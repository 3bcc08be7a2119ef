-- What is read of modules is exact, if where the reader stops a module goes as far and is refused there.
use Rattle.std.proofs.Common.{◌≡◌, ⊎_elim, ℕ, ◌<◌, ◌≤◌, List, [], ◌∷◌, ◌++◌, length, take, drop, refl, sym, ap, subst, ◌∙◌, arith, length-append}
use Rattle.std.specs.Prelude.{Some, None, slice_get}
use Rattle.std.proofs.lemmas.List.{length-take-le, take-append-drop}
use Rattle.std.proofs.Math.Seq.{take-append_seam}
use Rattle.def_token.specs.Lexical.{Token}
use Rattle.def_tree.specs.Fault.{spot_of, fault_at, Continues, HasFault}
use Rattle.def_module.specs.DeclTree.{ModuleTree}
use Rattle.def_module.specs.Entries.{module_entries}
use Rattle.def_module.specs.Module.{IsModule}
use Rattle.def_reading.specs.Cursor.{At, FarthestFailure}
use Rattle.def_reading.specs.Try.{Try, Reads, Stops, up_to, read_by}
use Rattle.def_reading.specs.TypeReading.{Ended}
use Rattle.law_types.proofs.LimitSpots.{spot_told}
use Rattle.law_machine.proofs.MachineGrows.{Above}
use Rattle.law_machine.proofs.MachineWays.{way_at}
use Rattle.law_exprs.proofs.TryFronts.{WayTo, IsHere}
use Rattle.law_exprs.proofs.TryHolds.{Holds}
use Rattle.law_exprs.proofs.TrySound.{Sound}
use Rattle.def_decl_reading.specs.DeclReading.{module_form, module_in, module_of}
use Rattle.def_decl_reading.specs.Form.{ends, reads}
use Rattle.def_decl_reading.specs.Laws.{IsExactModule}
use Rattle.law_decls.proofs.FormFronts.{good_form}
use Rattle.law_decls.proofs.ModuleOthers.{holds_stopped, here_stopped, others_told}
use Rattle.law_decls.proofs.ModuleRead.{module_is_sound, modules_are_read}

-- a module that continues the tokens as far as the reader goes, and is refused where the reader stops
pub record IsReached (tokens : List Token) (b : FarthestFailure) : Type 0 where
  pub front : List Token
  pub tail : List Token
  pub more : List Token
  pub rest : List Token
  pub tree : ModuleTree
  pub are : tokens ≡ front ++ tail
  pub many : b.many ≡ length front
  pub part : IsModule (front ++ more) tree rest
  pub spot : spot_of (length front) (module_entries tree) ≡ spot_told b.told
  pub inside : b.told.at < length tokens
  pub stands : slice_get tokens b.told.at ≡ Some b.told.token

module _ (tokens : List Token) (b : FarthestFailure) (end : Ended tokens) (is : module_in None (At 0 None tokens) ≡ Stops (Some b)) where
  -- no module goes further than the reader
  none_further : (many : ℕ) → b.many < many → many ≤ length tokens → (other : ModuleTree) → Continues IsModule (take many tokens) other → ⊥
  none_further many far inside other goes =
      let long = length-take-le many tokens inside in
      ⊎_elim (λ h. omega (arith, far, h, long)) (λ h. omega (arith, far, h.0, long))
      (others_told tokens b end is (take many tokens) (drop many tokens) goes.more goes.rest other (sym (take-append-drop many tokens)) goes.part)

  -- what is told where the reader stops is the fault
  pub stopped_fault : IsReached tokens b → HasFault IsModule module_entries tokens (fault_at b.told.code b.told.token)
  stopped_fault r =
      let taken : take (length r.front) tokens ≡ r.front = ap (take (length r.front)) r.are ∙ take-append_seam r.front r.tail in
      record {
        spot = spot_told b.told;
        refused = record {
          many = length r.front;
          within = omega (arith, ap length r.are, length-append r.front r.tail);
          tree = r.tree;
          reached = subst (λ ts. Continues IsModule ts r.tree) (sym taken) (record { more = r.more; rest = r.rest; part = r.part });
          refused = r.spot;
          last = λ other goes.
              ⊎_elim (λ h. absurd (omega (arith, h, r.many))) (λ h. h.1)
              (others_told tokens b end is r.front r.tail goes.more goes.rest other r.are (subst (λ ts. IsModule (ts ++ goes.more) other goes.rest) taken goes.part));
          stays = λ more far inside other goes. absurd (none_further more (omega (arith, far, r.many)) inside other goes);
          inside = r.inside;
        };
        token = b.told.token;
        stands = r.stands;
        told = refl;
      }

-- no way counts no more than none
none_above : (w : FarthestFailure) → Above w None → ⊥
none_above w a = elim a [ ]

-- where tokens have an end, something is told wherever the reader stops
something_told : (tokens : List Token) → Ended tokens → module_in None (At 0 None tokens) ≡ Stops None → ⊥
something_told [] end is = end
something_told (token ∷ tokens) end is =
    let w = way_at None 0 0 None token tokens in
    let look = reads module_form None (At 0 None (token ∷ tokens)) in
    let way : WayTo 0 None (token ∷ tokens) w.reach = record { many = w.many; told = w.told } in
    none_above w.reach
    (⊎_elim
    (λ (f : (w : FarthestFailure) → WayTo 0 None (token ∷ tokens) w → Holds w look). holds_stopped look None w.reach is (f w.reach way))
    (λ (h : IsHere 0 None (token ∷ tokens) look). here_stopped h.tree 0 None token tokens h.reach None (subst (λ look. up_to ends look ≡ Stops None) h.is is) w.reach way)
    ((good_form module_form).fronts 0 None (token ∷ tokens) None end))

-- what is read, by what the reader comes to
exact_look : (tokens : List Token) → Ended tokens → ((b : FarthestFailure) → module_in None (At 0 None tokens) ≡ Stops (Some b) → IsReached tokens b)
    → (look : Try ModuleTree) → module_in None (At 0 None tokens) ≡ look → IsExactModule tokens (read_by look)
exact_look tokens end reached (Reads tree (At at limit rest) reach) is =
    subst (λ look. IsExactModule tokens (read_by look)) is (modules_are_read.each tokens tree rest end (subst (Sound (IsModule tokens)) is (module_is_sound 0 None tokens None)))
exact_look tokens end reached (Stops None) is = absurd (something_told tokens end is)
exact_look tokens end reached (Stops (Some b)) is = stopped_fault tokens b end is (reached b is)

-- what is read of modules is exact, if such a module is there wherever the reader stops
pub exact_by : (tokens : List Token) → Ended tokens → ((b : FarthestFailure) → module_in None (At 0 None tokens) ≡ Stops (Some b) → IsReached tokens b) → IsExactModule tokens (module_of tokens)
exact_by tokens end reached = exact_look tokens end reached (module_in None (At 0 None tokens)) refl
