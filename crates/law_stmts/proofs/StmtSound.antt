-- What is read as a statement is one.
use Rattle.std.proofs.Common.{◌≡◌, ℕ, zero, suc, Bool, true, false, List, [], ◌∷◌, length, refl, sym, subst, ◌∙◌}
use Rattle.std.specs.Prelude.{Option, Some, None}
use Rattle.def_token.specs.Lexical.{Token}
use Rattle.def_tree.specs.ExprTree.{ExprTree}
use Rattle.def_tree.specs.Expressions.{IsExpr}
use Rattle.def_tree.specs.Limits.{Nesting, plain, opens, in_bracket, in_block, in_statement}
use Rattle.def_tree.specs.Statements.{begins_with, NoLocal, IsLocal, IsSimple, IsStart, without_start, with_local, with_simple, MayBeExpr, without_expr, with_expr, MayBeSimple, without_simple, with_step, IsCondition, of_brackets, IsStmt, of_block, of_local, of_simple, of_nothing, of_return, of_break, of_continue, of_if, of_if_else, of_while, of_for, AreStmts, no_stmts, more_stmts}
use Rattle.def_tree.specs.StmtTree as tree
use Rattle.def_tree.specs.StmtTree.{LocalTree, SimpleTree, StartTree, StmtTree, StmtTrees, NoStmts, MoreStmts}
use Rattle.def_tree.specs.Symbol.{symbol, is_sign, Is}
use Rattle.law_tree.proofs.Symbols.{is_sign-true}
use Rattle.def_reading.specs.Machine.{sign_of}
use Rattle.def_reading.specs.Cursor.{Told, Cursor, At, FarthestFailure}
use Rattle.def_reading.specs.StmtReading.{local_in, simple_in, declares, simple_up_to, either_by, either_in, start_in, maybe_expr_in, maybe_simple_in, condition_in, Opening, Brace, Semicolon, Return, Break, Continue, If, While, For, opening_text, openings, stmts_in, ended_in, body_in, else_in, behind_in, stmt_by, stmt_at, stmt_in}
use Rattle.def_reading.specs.Try.{Try, Reads, Stops, Reader, try_then, try_as, or_else, refused, up_to, expr_in}
use Rattle.law_stmts.proofs.LocalComes.{local_is}
use Rattle.law_stmts.proofs.LocalSound.{begins_is, SoundAt, local_sound, simple_sound}
use Rattle.law_machine.proofs.MachineSigns.{sign_of-some}
use Rattle.law_stmts.proofs.StmtComes.{semicolon_stops}
use Rattle.law_exprs.proofs.TryComes.{comes_up_to, starts}
use Rattle.law_exprs.proofs.TrySound.{Sound, sound_as, sound_by, sound_then, sound_choice, UpTo, sound_up_to, expr_sound}

-- a local up to a semicolon
abbrev pub locals : Nesting → Reader LocalTree
locals around reach place = up_to (is_sign ";") (local_in around reach place)

reads_stops : {A : Type 0} (a : A) (place : Cursor) (reach other : Option FarthestFailure) → Stops reach ≡ Reads a place other → ⊥
reads_stops a place reach other h = cc

-- where no local is read, there is none
pub no_local : (around : Nesting) (at : ℕ) (limit : Option Told) (tokens : List Token) (reach reach' : Option FarthestFailure) → locals around reach (At at limit tokens) ≡ Stops reach' → NoLocal tokens
no_local around at limit tokens reach reach' is local semicolon rest l s =
    let c = comes_up_to (is_sign ";") (local_in around) semicolon (rw s refl) (local_is around l (semicolon_stops semicolon rest s) (rw s refl)) in
    let g = c.comes at limit reach in
    reads_stops local (At g.at g.limit rest) reach' g.reach (sym is ∙ g.is)

module _ {A : Type 0} (of_a_local : LocalTree → A) (of_a_simple : SimpleTree → A) (around : Nesting) (tokens : List Token) (P : A → List Token → Type 0)
    (a_local : (local : LocalTree) (semicolon : Token) (rest : List Token) → IsLocal tokens local (semicolon ∷ rest) → Is ";" semicolon → P (of_a_local local) rest)
    (a_simple : (simple : SimpleTree) (semicolon : Token) (rest : List Token) → IsSimple tokens simple (semicolon ∷ rest) → Is ";" semicolon → NoLocal tokens → P (of_a_simple simple) rest) where
  -- a local alone, or else a simple statement
  or_else_sound : (at : ℕ) (limit : Option Told) (reach : Option FarthestFailure) (look : Try LocalTree) → locals around reach (At at limit tokens) ≡ look → Sound (UpTo (IsLocal tokens) (is_sign ";")) look
      → Sound P (or_else (simple_up_to of_a_simple around) (At at limit tokens) (try_as of_a_local look))
  or_else_sound at limit reach (Reads local (At at' limit' rest) reach') is h = a_local local h.mark rest h.part (is_sign-true ";" (symbol h.mark) h.passes)
  or_else_sound at limit reach (Stops reach') is h =
      sound_as (UpTo (IsSimple tokens) (is_sign ";")) P of_a_simple (up_to (is_sign ";") (simple_in around reach' (At at limit tokens)))
      (λ simple rest u. a_simple simple u.mark rest u.part (is_sign-true ";" (symbol u.mark) u.passes) (no_local around at limit tokens reach reach' is))
      (sound_up_to (IsSimple tokens) (is_sign ";") (simple_in around reach' (At at limit tokens)) (simple_sound around at limit tokens reach'))

  either_by_sound : (b : Bool) (at : ℕ) (limit : Option Told) (reach : Option FarthestFailure) → Sound (UpTo (IsLocal tokens) (is_sign ";")) (locals around reach (At at limit tokens))
      → Sound P (either_by b of_a_local of_a_simple around reach (At at limit tokens))
  either_by_sound true at limit reach h =
      sound_as (UpTo (IsLocal tokens) (is_sign ";")) P of_a_local (locals around reach (At at limit tokens))
      (λ local rest u. a_local local u.mark rest u.part (is_sign-true ";" (symbol u.mark) u.passes)) h
  either_by_sound false at limit reach h = or_else_sound at limit reach (locals around reach (At at limit tokens)) refl h

  either_sound : (at : ℕ) (limit : Option Told) (reach : Option FarthestFailure) → Sound P (either_in of_a_local of_a_simple around reach (At at limit tokens))
  either_sound at limit reach =
      either_by_sound (declares around (At at limit tokens)) at limit reach
      (sound_up_to (IsLocal tokens) (is_sign ";") (local_in around reach (At at limit tokens)) (local_sound around at limit tokens reach))

-- heads of loops
start_sound : (around : Nesting) → SoundAt IsStart (start_in around)
start_sound around at limit tokens reach =
    sound_choice (IsStart tokens) (is_sign ";") plain (λ semicolon reach place. Reads tree.NoStart place reach) (either_in tree.LocalStart tree.SimpleStart around) at limit tokens reach
    (λ semicolon others at limit b. subst (λ ts. IsStart ts tree.NoStart others) (sym b.are) (without_start (begins_is ";" b)))
    (λ n. either_sound tree.LocalStart tree.SimpleStart around tokens (IsStart tokens) (λ local s rest l h. with_local l h) (λ simple s rest p h none. with_simple p h none) at limit reach)

maybe_expr_sound : (around : Nesting) → SoundAt MayBeExpr (maybe_expr_in around)
maybe_expr_sound around at limit tokens reach =
    sound_choice (MayBeExpr tokens) (is_sign ";") plain (λ semicolon reach place. Reads None place reach) (λ reach place. try_as Some (up_to (is_sign ";") (expr_in false around reach place))) at limit tokens reach
    (λ semicolon others at limit b. subst (λ ts. MayBeExpr ts None others) (sym b.are) (without_expr (begins_is ";" b)))
    (λ n. sound_as (UpTo (IsExpr tokens) (is_sign ";")) (MayBeExpr tokens) Some (up_to (is_sign ";") (expr_in false around reach (At at limit tokens)))
    (λ e rest u. with_expr u.part (is_sign-true ";" (symbol u.mark) u.passes))
    (sound_up_to (IsExpr tokens) (is_sign ";") (expr_in false around reach (At at limit tokens)) (expr_sound false around at limit tokens reach)))

maybe_simple_sound : (around : Nesting) → SoundAt MayBeSimple (maybe_simple_in around)
maybe_simple_sound around at limit tokens reach =
    sound_choice (MayBeSimple tokens) (is_sign ")") plain (λ closing reach place. Reads None place reach) (λ reach place. try_as Some (up_to (is_sign ")") (simple_in around reach place))) at limit tokens reach
    (λ closing others at limit b. subst (λ ts. MayBeSimple ts None others) (sym b.are) (without_simple (begins_is ")" b)))
    (λ n. sound_as (UpTo (IsSimple tokens) (is_sign ")")) (MayBeSimple tokens) Some (up_to (is_sign ")") (simple_in around reach (At at limit tokens)))
    (λ e rest u. with_step u.part (is_sign-true ")" (symbol u.mark) u.passes))
    (sound_up_to (IsSimple tokens) (is_sign ")") (simple_in around reach (At at limit tokens)) (simple_sound around at limit tokens reach)))

condition_sound : (around : Nesting) → SoundAt IsCondition (condition_in around)
condition_sound around at limit tokens reach =
    let inside = in_bracket around in
    sound_choice (IsCondition tokens) (is_sign "(") (opens inside.brackets) (λ opening reach place. up_to (is_sign ")") (expr_in false inside reach place)) refused at limit tokens reach
    (λ opening others at limit b. sound_by (UpTo (IsExpr others) (is_sign ")")) (IsCondition tokens) (up_to (is_sign ")") (expr_in false inside reach (At at limit others)))
    (λ e rest u. subst (λ ts. IsCondition ts e rest) (sym b.are) (of_brackets (begins_is "(" b) u.part (is_sign-true ")" (symbol u.mark) u.passes)))
    (sound_up_to (IsExpr others) (is_sign ")") (expr_in false inside reach (At at limit others)) (expr_sound false inside at limit others reach)))
    (λ n. tt)

-- statements in a block
pub stmts_sound : (stmt : Reader StmtTree) → SoundAt IsStmt stmt → (turns : ℕ) → SoundAt AreStmts (stmts_in stmt turns)
stmts_sound stmt sound zero at limit tokens reach = tt
stmts_sound stmt sound (suc turns) at limit tokens reach =
    sound_choice (AreStmts tokens) (is_sign "}") plain (λ closing reach place. Reads NoStmts place reach)
    (λ reach place. try_then (λ first reach place. try_as (MoreStmts first) (stmts_in stmt turns reach place)) (stmt reach place)) at limit tokens reach
    (λ closing others at limit b. subst (λ ts. AreStmts ts NoStmts others) (sym b.are) (no_stmts (begins_is "}" b)))
    (λ n. sound_then (IsStmt tokens) (AreStmts tokens) (λ first reach place. try_as (MoreStmts first) (stmts_in stmt turns reach place)) (stmt reach (At at limit tokens)) (sound at limit tokens reach)
    (λ first at limit behind reach s. sound_as (AreStmts behind) (AreStmts tokens) (MoreStmts first) (stmts_in stmt turns reach (At at limit behind)) (λ stmts rest m. more_stmts s m)
    (stmts_sound stmt sound turns at limit behind reach)))

ended_sound : (stmt : StmtTree) (start : List Token) (tokens : List Token) → ((semicolon : Token) (rest : List Token) → tokens ≡ semicolon ∷ rest → Is ";" semicolon → IsStmt start stmt rest)
    → (at : ℕ) (limit : Option Told) (reach : Option FarthestFailure) → Sound (IsStmt start) (ended_in stmt reach (At at limit tokens))
ended_sound stmt start tokens f at limit reach =
    sound_choice (IsStmt start) (is_sign ";") plain (λ semicolon reach place. Reads stmt place reach) refused at limit tokens reach
    (λ semicolon others at limit b. f semicolon others b.are (begins_is ";" b)) (λ n. tt)

not_starts : (rest : List Token) → starts (is_sign "else") rest ≡ false → begins_with "else" rest ≡ false
not_starts [] h = refl
not_starts (token ∷ tokens) h = h

module _ (around : Nesting) (stmt : Nesting → Reader StmtTree) (sound : (around : Nesting) → SoundAt IsStmt (stmt around)) where
  body_sound : SoundAt IsStmt (body_in around stmt)
  body_sound at limit [] reach = sound (in_statement around) at limit [] reach
  body_sound at limit (token ∷ tokens) reach = sound (in_statement around) at _ (token ∷ tokens) reach

  else_sound : (word : Token) (condition : ExprTree) (yes' : StmtTree) (start behind tokens : List Token) → Is "if" word → IsCondition start condition behind → IsStmt behind yes' tokens
      → (at : ℕ) (limit : Option Told) (reach : Option FarthestFailure) → Sound (IsStmt (word ∷ start)) (else_in around stmt word condition yes' reach (At at limit tokens))
  else_sound word condition yes' start behind tokens h c s at limit reach =
      sound_choice (IsStmt (word ∷ start)) (is_sign "else") plain (λ otherwise reach place. try_as (tree.IfElse word condition yes') (body_in around stmt reach place))
      (λ reach place. Reads (tree.If word condition yes') place reach) at limit tokens reach
      (λ otherwise others at limit b. sound_as (IsStmt others) (IsStmt (word ∷ start)) (tree.IfElse word condition yes') (body_in around stmt reach (At at limit others))
      (λ no' rest t. of_if_else h c (subst (IsStmt behind yes') b.are s) (begins_is "else" b) t) (body_sound at limit others reach))
      (λ n. of_if h c s (not_starts tokens n))

  behind_sound : (opening : Opening) (token : Token) (tokens : List Token) → Is (opening_text opening) token → (at : ℕ) (limit : Option Told) (reach : Option FarthestFailure)
      → Sound (IsStmt (token ∷ tokens)) (behind_in around stmt opening token reach (At at limit tokens))
  behind_sound Brace token tokens h at limit reach =
      sound_as (AreStmts tokens) (IsStmt (token ∷ tokens)) (tree.Block token) (stmts_in (stmt (in_block around)) (suc (length tokens)) reach (At at limit tokens)) (λ stmts rest m. of_block h m)
      (stmts_sound (stmt (in_block around)) (sound (in_block around)) (suc (length tokens)) at limit tokens reach)
  behind_sound Semicolon token tokens h at limit reach = of_nothing h
  behind_sound Return token tokens h at limit reach =
      sound_as (MayBeExpr tokens) (IsStmt (token ∷ tokens)) (tree.Return token) (maybe_expr_in around reach (At at limit tokens)) (λ value rest v. of_return h v) (maybe_expr_sound around at limit tokens reach)
  behind_sound Break token tokens h at limit reach =
      ended_sound (tree.Break token) (token ∷ tokens) tokens (λ s rest is e. subst (λ ts. IsStmt (token ∷ ts) (tree.Break token) rest) (sym is) (of_break h e)) at limit reach
  behind_sound Continue token tokens h at limit reach =
      ended_sound (tree.Continue token) (token ∷ tokens) tokens (λ s rest is e. subst (λ ts. IsStmt (token ∷ ts) (tree.Continue token) rest) (sym is) (of_continue h e)) at limit reach
  behind_sound If token tokens h at limit reach =
      sound_then (IsCondition tokens) (IsStmt (token ∷ tokens)) (λ condition reach place. try_then (else_in around stmt token condition) (body_in around stmt reach place)) (condition_in around reach (At at limit tokens))
      (condition_sound around at limit tokens reach)
      (λ condition at limit behind reach c. sound_then (IsStmt behind) (IsStmt (token ∷ tokens)) (else_in around stmt token condition) (body_in around stmt reach (At at limit behind)) (body_sound at limit behind reach)
      (λ yes' at limit rest reach s. else_sound token condition yes' tokens behind rest h c s at limit reach))
  behind_sound While token tokens h at limit reach =
      sound_then (IsCondition tokens) (IsStmt (token ∷ tokens)) (λ condition reach place. try_as (tree.While token condition) (body_in around stmt reach place)) (condition_in around reach (At at limit tokens))
      (condition_sound around at limit tokens reach)
      (λ condition at limit behind reach c. sound_as (IsStmt behind) (IsStmt (token ∷ tokens)) (tree.While token condition) (body_in around stmt reach (At at limit behind)) (λ body rest s. of_while h c s)
      (body_sound at limit behind reach))
  behind_sound For token tokens h at limit reach =
      let bracket = in_bracket around in
      sound_choice (IsStmt (token ∷ tokens)) (is_sign "(") (opens bracket.brackets) (λ opening reach place.
      try_then (λ start reach place.
      try_then (λ condition reach place.
      try_then (λ step reach place. try_as (tree.For token start condition step) (body_in around stmt reach place))
      (maybe_simple_in bracket reach place)) (maybe_expr_in bracket reach place)) (start_in bracket reach place)) refused at limit tokens reach
      (λ opening others at limit b.
      sound_then (IsStart others) (IsStmt (token ∷ tokens)) (λ start reach place.
      try_then (λ condition reach place.
      try_then (λ step reach place. try_as (tree.For token start condition step) (body_in around stmt reach place))
      (maybe_simple_in bracket reach place)) (maybe_expr_in bracket reach place)) (start_in bracket reach (At at limit others)) (start_sound bracket at limit others reach)
      (λ start at limit second reach s.
      sound_then (MayBeExpr second) (IsStmt (token ∷ tokens)) (λ condition reach place.
      try_then (λ step reach place. try_as (tree.For token start condition step) (body_in around stmt reach place)) (maybe_simple_in bracket reach place))
      (maybe_expr_in bracket reach (At at limit second)) (maybe_expr_sound bracket at limit second reach)
      (λ condition at limit third reach c.
      sound_then (MayBeSimple third) (IsStmt (token ∷ tokens)) (λ step reach place. try_as (tree.For token start condition step) (body_in around stmt reach place))
      (maybe_simple_in bracket reach (At at limit third)) (maybe_simple_sound bracket at limit third reach)
      (λ step at limit behind reach t.
      sound_as (IsStmt behind) (IsStmt (token ∷ tokens)) (tree.For token start condition step) (body_in around stmt reach (At at limit behind))
      (λ body rest p. subst (λ ts. IsStmt (token ∷ ts) (tree.For token start condition step body) rest) (sym b.are) (of_for h (begins_is "(" b) s c t p))
      (body_sound at limit behind reach)))))
      (λ n. tt)

  stmt_by_sound : (found : Option Opening) (token : Token) (tokens : List Token) → sign_of opening_text openings (symbol token) ≡ found → (at : ℕ) (limit : Option Told) (reach : Option FarthestFailure)
      → Sound (IsStmt (token ∷ tokens)) (stmt_by around stmt found reach token (At at limit (token ∷ tokens)))
  stmt_by_sound None token tokens is at limit reach =
      either_sound tree.Local tree.Simple around (token ∷ tokens) (IsStmt (token ∷ tokens)) (λ local s rest l h. of_local l h) (λ simple s rest p h none. of_simple p h none) at limit reach
  stmt_by_sound (Some opening) token tokens is at limit reach = behind_sound opening token tokens (sign_of-some opening_text openings (symbol token) opening is) (suc at) _ reach

  stmt_at_sound : SoundAt IsStmt (stmt_at around stmt)
  stmt_at_sound at limit [] reach = tt
  stmt_at_sound at limit (token ∷ tokens) reach = stmt_by_sound (sign_of opening_text openings (symbol token)) token tokens refl at limit reach

pub stmt_sound : (turns : ℕ) (around : Nesting) → SoundAt IsStmt (stmt_in turns around)
stmt_sound zero around at limit tokens reach = tt
stmt_sound (suc turns) around at limit tokens reach = stmt_at_sound around (stmt_in turns) (stmt_sound turns) at limit tokens reach
