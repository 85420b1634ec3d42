use Rattle.std.proofs.Common.{◌≡◌, ◌∙◌, inl, inr, ℕ, Bool, true, false, cond, Option, Some, None, refl, sym, ap}
use Rattle.plain_cat.specs.declared.command.Cmd.{Cmd}
use Rattle.plain_cat.specs.declared.command.Cmd.TheVariants as cmd
use Rattle.plain_cat.specs.declared.reply.Reply.{Reply}
use Rattle.plain_cat.specs.declared.reply.Refusal.{Refusal}
use Rattle.plain_cat.specs.declared.cat.Cat.{Cat}
use Rattle.plain_cat.specs.declared.cat.File.{File}
use Rattle.plain_rules.specs.declared.outcome.Outcome.{Outcome}
use Rattle.plain_rules.specs.Lookups.{live}
use Rattle.plain_rules.specs.Answers.{unless, in_directory_file, create_refusal, create_made, create_outcome, dir_name, mkdir_refusal, mkdir_made, mkdir_outcome, extend_refusal, extend_of, extend_outcome, outcome, IsPick, Answer}
use Rattle.plain_rules.specs.Checks.{shown_number, ChosenAlike}
use Rattle.plain_rules.specs.Laws.{makes_file}
use Rattle.plain_rules.proofs.Picks.{one_pick}

alike_unless : (c : Cat) (r : Option Refusal) (o p : Outcome) (m : ℕ) → shown_number o.reply ≡ Some m
    → ChosenAlike (unless c r o) (unless c r p) m
alike_unless c None o p m h = inr h
alike_unless c (Some r) o p m h = inl refl

alike_if : (b : Bool) (o p q : Outcome) (m : ℕ) → ChosenAlike o p m → ChosenAlike (cond b o q) (cond b p q) m
alike_if true o p q m h = h
alike_if false o p q m h = inl refl

alike_in : (c : Cat) (f : Option File) (next after : File → Outcome) (m : ℕ) → ((d : File) → ChosenAlike (next d) (after d) m)
    → ChosenAlike (in_directory_file c f next) (in_directory_file c f after) m
alike_in c None next after m h = inl refl
alike_in c (Some d) next after m h = alike_if d.dir (next d) (after d) _ m (h d)

-- EXTEND is answered alike whatever number is free
extend_alike : (c : Cat) (n : ℕ) (f : Option File) (blocks m k : ℕ) → extend_of c n f blocks (Some m) ≡ extend_of c n f blocks (Some k)
unfolding extend_refusal
extend_alike c n None blocks m k = refl
extend_alike c n (Some f) blocks m k = refl

-- two free numbers give the same answer, unless the reply shows the number
pub free_choice : (c : Cat) (node : ℕ) (x : Cmd) (m k : ℕ) → ChosenAlike (outcome c node x (Some m)) (outcome c node x (Some k)) m
unfolding outcome create_outcome mkdir_outcome create_refusal mkdir_refusal extend_outcome
free_choice c node (cmd.Lookup reg dir name ver) m k = inl refl
free_choice c node (cmd.List dir) m k = inl refl
free_choice c node (cmd.Stat file) m k = inl refl
free_choice c node (cmd.Create reg dir name ver blocks owner) m k = alike_in c (live c dir) _ _ m (λ d.
    alike_unless c (create_refusal c d name ver blocks owner (Some m)) (create_made c dir.num d name ver blocks owner (Some m)) (create_made c dir.num d name ver blocks owner (Some k)) m refl)
free_choice c node (cmd.MkDir reg dir name owner) m k = alike_in c (live c dir) _ _ m (λ d.
    alike_unless c (mkdir_refusal c d (dir_name name) owner (Some m)) (mkdir_made c dir.num d (dir_name name) owner (Some m)) (mkdir_made c dir.num d (dir_name name) owner (Some k)) m refl)
free_choice c node (cmd.Extend file blocks) m k = inl (extend_alike c file.num (live c file) blocks m k)
free_choice c node (cmd.Trunc file blocks) m k = inl refl
free_choice c node (cmd.Delete dir name ver) m k = inl refl
free_choice c node (cmd.Rename dir name ver to to_ver) m k = inl refl
free_choice c node (cmd.OpenFile chan file mode) m k = inl refl
free_choice c node (cmd.CloseFile chan) m k = inl refl
free_choice c node (cmd.ReadBlock chan vbn) m k = inl refl
free_choice c node (cmd.WriteBlock chan vbn text) m k = inl refl
free_choice c node (cmd.QuotaSet owner quota over) m k = inl refl
free_choice c node (cmd.QuotaShow owner) m k = inl refl

-- a command that makes no file is answered alike whatever number is free
pub no_choice : (c : Cat) (node : ℕ) (x : Cmd) (m k : ℕ) → makes_file x ≡ false → outcome c node x (Some m) ≡ outcome c node x (Some k)
unfolding outcome extend_outcome
no_choice c node (cmd.Lookup reg dir name ver) m k h = refl
no_choice c node (cmd.List dir) m k h = refl
no_choice c node (cmd.Stat file) m k h = refl
no_choice c node (cmd.Create reg dir name ver blocks owner) m k h = absurd (cc h)
no_choice c node (cmd.MkDir reg dir name owner) m k h = absurd (cc h)
no_choice c node (cmd.Extend file blocks) m k h = extend_alike c file.num (live c file) blocks m k
no_choice c node (cmd.Trunc file blocks) m k h = refl
no_choice c node (cmd.Delete dir name ver) m k h = refl
no_choice c node (cmd.Rename dir name ver to to_ver) m k h = refl
no_choice c node (cmd.OpenFile chan file mode) m k h = refl
no_choice c node (cmd.CloseFile chan) m k h = refl
no_choice c node (cmd.ReadBlock chan vbn) m k h = refl
no_choice c node (cmd.WriteBlock chan vbn text) m k h = refl
no_choice c node (cmd.QuotaSet owner quota over) m k h = refl
no_choice c node (cmd.QuotaShow owner) m k h = refl

-- the reply of one pick is not the one that was given, so no pick gives it
pub no_answer : (c : Cat) (node : ℕ) (x : Cmd) (r : Reply) (new : Option ℕ) → IsPick c new
    → ((n : ℕ) → shown_number r ≡ Some n → IsPick c (Some n) → new ≡ Some n)
    → ((outcome c node x new).reply ≡ r → ⊥) → (d : Cat) → Answer c node x r d → ⊥
no_answer c node x r None pick shown differs d (None, other, is) = differs (ap (λ (o : Outcome). o.reply) is)
no_answer c node x r None pick shown differs d (Some m, other, is) = one_pick c m pick other
no_answer c node x r (Some k) pick shown differs d (None, other, is) = one_pick c k other pick
no_answer c node x r (Some k) pick shown differs d (Some m, other, is) = by_choice (free_choice c node x m k) where
  by_choice : ChosenAlike (outcome c node x (Some m)) (outcome c node x (Some k)) m → ⊥
  by_choice (inl same) = differs (ap (λ (o : Outcome). o.reply) (sym same ∙ is))
  by_choice (inr shows) =
      let number : shown_number r ≡ Some m = ap (λ (o : Outcome). shown_number o.reply) (sym is) ∙ shows in
      let e : Some k ≡ Some m = shown m number other in
      let same : k ≡ m = cc e in
      differs (ap (λ (n : ℕ). (outcome c node x (Some n)).reply) same ∙ ap (λ (o : Outcome). o.reply) is)
