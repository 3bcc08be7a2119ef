-- Forms behind trees that are made, behind words of buffers, and where none stands.
use Rattle.std.proofs.Common.{◌≡◌, Bool, ap, subst, ◌∙◌}
use Rattle.std.specs.Prelude.{Option, Result, Err}
use Rattle.std.specs.Option.{option_map}
use Rattle.def_tree.specs.Limits.{Nesting}
use Rattle.def_module.specs.DeclTree as trees
use Rattle.def_reading.specs.Cursor as places
use Rattle.def_reading.specs.Try.{Try, Reads, Stops, try_then, try_as}
use Rattle.def_decl_reading.specs.DeclReading.{buffer_form, kind_form}
use Rattle.def_decl_reading.specs.Form.{Form, Never, Then, As, reads}
use Rattle.sl_token.specs.View.{token_in}
use Rattle.sl_token.specs.declared.token.Token.{Token}
use Rattle.sl_tree.specs.DeclView.{buffer_kind_of}
use Rattle.sl_tree.specs.declared.declarations.BufferKind.{BufferKind}
use Rattle.sl_tree.specs.declared.declarations.BufferKind.TheVariants as buffer
use Rattle.sl_cursor.specs.Following.{IsRead, Follows, Refuses}
use Rattle.sl_cursor.specs.Seen.{place_in, reach_in}
use Rattle.sl_cursor.specs.Tries.{on_lists}
use Rattle.sl_cursor.specs.declared.source.Here.{Here}
use Rattle.sl_cursor.specs.declared.source.Source.{Source}
use Rattle.sl_cursor.specs.declared.source.Unread.{Unread}
use Rattle.sl_cursor.specs.declared.source.Unread.TheVariants as unread
use Rattle.sl_cursor.proofs.Following.{follows_refused}
use Rattle.sl_decl.specs.Forms.{IsTaken, IsKind}
use Rattle.sl_decl.proofs.Forming.{Comes, Known, yes, no, part_stops, first_stops, outcome_by}

-- what a tree was made of
record IsMade {B D : Type 0} (make : B → D) (look : Try B) (made : D) (place : places.Cursor) (reach : Option places.FarthestFailure)
    : Type 0 where
  pub tree : B
  pub is : look ≡ Reads tree place reach
  pub same : make tree ≡ made

made_back : {B D : Type 0} (make : B → D) (look : Try B) (made : D) (place : places.Cursor) (reach : Option places.FarthestFailure)
    → try_as make look ≡ Reads made place reach → IsMade make look made place reach
made_back make (Reads tree place' reach') made place reach h =
    let same_tree : make tree ≡ made = cc in
    let same_place : place' ≡ place = cc in
    let same_reach : reach' ≡ reach = cc in
    record {
      tree = tree;
      is = ap (λ place. Reads tree place reach') same_place
          ∙ ap (Reads tree place) same_reach;
      same = same_tree;
    }
made_back make (Stops reach') made place reach h = absurd (cc)

-- what is read behind the form of which a tree was made
pub behind_as : {A B C D E P : Type 0} {deep : Bool} {source : Source} {view : A → C} {seen : E → D} {make : B → C}
    {form : Form B} {next : B → Form D} {from : Here} {read : A} {mid : Here} {result : Result (E × Here) Unread}
    → Known P from → IsRead source view (reads (As make form)) from read mid
    → ((tree : B) → Known ((make tree ≡ view read) × P) mid → Comes deep source seen (next tree) mid result)
    → Comes deep source seen (Then form next) from result
behind_as {deep = deep} {source = source} {view = view} {seen = seen} {make = make} {form = form} {next = next}
    {from = from} {read = read} {mid = mid} {result = result} k r c =
    let bytes = source.bytes.now in
    let m = made_back make (on_lists source (reads form) from) r.tried.tree (place_in bytes mid.place)
    (option_map (reach_in bytes) mid.reach) r.tried.is in
    record {
      outcome = outcome_by deep source seen (reads (Then form next)) (reads (next m.tree)) from mid result
          (ap (try_then (λ tree. reads (next tree))) m.is) r.on r.tried.rises
          (c m.tree (record { holds = λ h. (m.same ∙ r.tried.same h, k.holds (r.tried.rises h)) })).outcome;
    }

-- a buffer behind the word of its kind
pub kinded : {A P : Type 0} {deep : Bool} {source : Source} {view : A → trees.DeclTree} {from : Here}
    {result : Result (A × Here) Unread}
    (around : Nesting) (binding : Option trees.BindingTree) (access : Option trees.AccessTree)
    (other : Form trees.DeclTree) (kind : BufferKind) (word : Token) (to : Here)
    → Known P from → IsKind source from kind word to
    → (Known P to → Comes deep source view (As trees.Buffer (kind_form around binding access (buffer_kind_of kind)
    (token_in source.bytes.now word))) to result)
    → Comes deep source view (buffer_form around binding access other) from result
kinded around binding access other buffer.ReadOnly word to k p c = yes k p c
kinded around binding access other buffer.ReadWrite word to k p c = no p.0 (yes k p.1 c)

-- no form is left
pub nothing : {A B : Type 0} {deep : Bool} {source : Source} {view : A → B} {from : Here} {stop : Unread}
    → Refuses source from stop → Comes deep source view Never from (Err stop)
nothing {B = B} {source = source} {from = from} {stop = stop} r =
    part_stops {form = Never} (follows_refused {A = B} source (λ b. b) from stop r)

-- tokens alone, inside forms that are equal
pub inside_taken : {A B : Type 0} {source : Source} {view : A → B} {from : Here} {read : A} {to : Here} {n m : Nesting}
    (form : Nesting → Form B) → n ≡ m → IsTaken source view (reads (form n)) from read to
    → IsTaken source view (reads (form m)) from read to
inside_taken {source = source} {view = view} {from = from} {read = read} {to = to} form same t =
    subst (λ (n : Nesting). IsTaken source view (reads (form n)) from read to) same t

-- nothing is read of a form of which a tree is made
stops_back : {B D : Type 0} (make : B → D) (look : Try B) (reach : Option places.FarthestFailure) → try_as make look ≡ Stops reach
    → look ≡ Stops reach
stops_back make (Reads tree place reach') reach h = absurd (cc)
stops_back make (Stops reach') reach h = let same : reach' ≡ reach = cc in ap Stops same

pub first_stops_as : {B C D E : Type 0} {deep : Bool} {source : Source} {seen : E → D} {form : Form B}
    {next : B → Form D} {from : Here} {stop : Unread} (make : B → C)
    → Follows {A = C} source (λ c. c) (reads (As make form)) from (Err stop)
    → Comes deep source seen (Then form next) from (Err stop)
first_stops_as {B = B} {C = C} {source = source} {form = form} {next = next} {from = from} {stop = stop} make f =
    first_stops {form = form} (part_stops {form = form} (stop_by stop f))
  where
    stop_by : (stop : Unread) → Follows {A = C} source (λ c. c) (reads (As make form)) from (Err stop)
        → Follows {A = B} source (λ b. b) (reads form) from (Err stop)
    stop_by (unread.Refused reach) f =
        stops_back make (on_lists source (reads form) from) (option_map (reach_in source.bytes.now) reach) f
    stop_by (unread.Deep told) f = f
    stop_by unread.NoMemory f = tt
