-- What stages leave of what the channels have open.
use Rattle.std.proofs.Common.{◌≡◌, ℕ, Bool, true, false, List, Option, Some, None, slice_set, refl, ap, ◌∙◌, inl, inr, cond}
use Rattle.std.specs.Prelude.{option_and_then}
use Rattle.plain_cat.specs.declared.ids.Fid.{Fid}
use Rattle.plain_cat.specs.declared.ids.Uic.{Uic}
use Rattle.plain_cat.specs.declared.entries.DirEnt.{DirEnt}
use Rattle.plain_cat.specs.declared.command.Cmd.{Cmd}
use Rattle.plain_cat.specs.declared.command.Cmd.TheVariants as cmd
use Rattle.plain_cat.specs.declared.reply.Refusal.{Refusal}
use Rattle.plain_cat.specs.declared.history.Stage.{Stage}
use Rattle.plain_cat.specs.declared.history.Stage.TheVariants as stage
use Rattle.plain_cat.specs.declared.cat.Cat.{Cat}
use Rattle.plain_cat.specs.declared.cat.File.{File}
use Rattle.plain_cat.specs.declared.cat.Open.{Open}
use Rattle.plain_cat.specs.declared.cat.QuotaRow.{QuotaRow}
use Rattle.plain_rules.specs.declared.outcome.Outcome.{Outcome}
use Rattle.plain_rules.specs.Lookups.{place, file_at, in_use, live, versions, entry_of, channel_at, row_of}
use Rattle.plain_rules.specs.Changes.{with_channel}
use Rattle.plain_rules.specs.Answers.{unless, in_directory_file, with_entry, create_refusal, create_made, create_outcome, dir_name, mkdir_refusal, mkdir_made, mkdir_outcome, extend_of, extend_outcome, trunc_of, trunc_outcome, less_entry, unnamed, delete_outcome, rename_refusal, rename_outcome, closed, close_of, close_outcome, write_of, write_open, write_outcome, quota_set_of, quota_set_outcome, outcome}
use Rattle.plain_rules.specs.Stages.{is_refusal, only_if, making_stage, create_stage, mkdir_stage, extend_stage, trunc_stage, entry_stage, delete_stage, renaming_stage, rename_stage, closing_stage, close_stage, writing_stage, write_stage, quota_stage, command_stage, shown_stage, staged}
use Rattle.vol_under.specs.Opens.{KeepsOpens, StagesKeepOpens}

-- an outcome, or a stage, that leaves these channels as they are
module _ (os : List (Option Open)) where
  if_kept : (b : Bool) (x y : Outcome) → x.after.opens ≡ os → y.after.opens ≡ os → (cond b x y).after.opens ≡ os
  if_kept true x y p q = p
  if_kept false x y p q = q

  some_kept : (x d : Cat) → x.opens ≡ os → Some x ≡ Some d → d.opens ≡ os
  some_kept x d p e = let same : d ≡ x = (let h : Some x ≡ Some d = e in cc) in ap (λ (y : Cat). y.opens) same ∙ p

  none_kept : (d : Cat) → None ≡ Some d → d.opens ≡ os
  none_kept d e = absurd (let h : None ≡ Some d = e in cc)

  only_kept : (b : Bool) (x d : Cat) → x.opens ≡ os → only_if b x ≡ Some d → d.opens ≡ os
  only_kept true x d p e = some_kept x d p e
  only_kept false x d p e = none_kept d e

  then_kept : {A : Type 0} (f : A → Option Cat) (o : Option A) (d : Cat) → ((a : A) → f a ≡ Some d → d.opens ≡ os) → option_and_then f o ≡ Some d → d.opens ≡ os
  then_kept f None d h e = none_kept d e
  then_kept f (Some a) d h e = h a e

module _ (c : Cat) where
  unless_kept : (r : Option Refusal) (o : Outcome) → o.after.opens ≡ c.opens → (unless c r o).after.opens ≡ c.opens
  unless_kept None o p = p
  unless_kept (Some r) o p = refl

  in_kept : (f : Option File) (next : File → Outcome) → ((d : File) → (next d).after.opens ≡ c.opens) → (in_directory_file c f next).after.opens ≡ c.opens
  in_kept None next h = refl
  in_kept (Some d) next h = if_kept c.opens d.dir (next d) _ (h d) refl

  entry_kept : (e : Option DirEnt) (next : DirEnt → Outcome) → ((e : DirEnt) → (next e).after.opens ≡ c.opens) → (with_entry c e next).after.opens ≡ c.opens
  entry_kept None next h = refl
  entry_kept (Some e) next h = if_kept c.opens _ _ (next e) refl (h e)

  -- ---- answers

  create_kept : (dir : Fid) (name : List ℕ) (ver blocks : ℕ) (owner : Uic) (new : Option ℕ) → (create_outcome c dir name ver blocks owner new).after.opens ≡ c.opens
  unfolding create_outcome
  create_kept dir name ver blocks owner new = in_kept (live c dir) _ (λ d. unless_kept (create_refusal c d name ver blocks owner new) (create_made c dir.num d name ver blocks owner new) (made d new)) where
    made : (d : File) (k : Option ℕ) → (create_made c dir.num d name ver blocks owner k).after.opens ≡ c.opens
    made d None = refl
    made d (Some k) = refl

  mkdir_kept : (dir : Fid) (name : List ℕ) (owner : Uic) (new : Option ℕ) → (mkdir_outcome c dir name owner new).after.opens ≡ c.opens
  unfolding mkdir_outcome
  mkdir_kept dir name owner new = in_kept (live c dir) _ (λ d. unless_kept (mkdir_refusal c d (dir_name name) owner new) (mkdir_made c dir.num d (dir_name name) owner new) (made d new)) where
    made : (d : File) (k : Option ℕ) → (mkdir_made c dir.num d (dir_name name) owner k).after.opens ≡ c.opens
    made d None = refl
    made d (Some k) = refl

  extend_kept : (file : Fid) (blocks : ℕ) (new : Option ℕ) → (extend_outcome c file blocks new).after.opens ≡ c.opens
  unfolding extend_outcome
  extend_kept file blocks new = by_file (live c file) where
    by_file : (f : Option File) → (extend_of c file.num f blocks new).after.opens ≡ c.opens
    by_file None = refl
    by_file (Some f) = unless_kept _ _ refl

  trunc_kept : (file : Fid) (blocks : ℕ) → (trunc_outcome c file blocks).after.opens ≡ c.opens
  unfolding trunc_outcome
  trunc_kept file blocks = by_file (live c file) where
    by_file : (f : Option File) → (trunc_of c file.num f blocks).after.opens ≡ c.opens
    by_file None = refl
    by_file (Some f) = if_kept c.opens _ _ _ refl refl

  delete_kept : (dir : Fid) (name : List ℕ) (ver : ℕ) → (delete_outcome c dir name ver).after.opens ≡ c.opens
  unfolding delete_outcome
  delete_kept dir name ver = in_kept (live c dir) _ (λ d. entry_kept (entry_of (versions name d.entries) ver) _ (λ e. if_kept c.opens _ _ _ refl (by_file d e (in_use c e.fid)))) where
    by_file : (d : File) (e : DirEnt) (f : Option File) → (unnamed (less_entry c dir.num d e) e.fid.num f).after.opens ≡ c.opens
    by_file d e None = refl
    by_file d e (Some f) = if_kept c.opens _ _ _ refl refl

  rename_kept : (dir : Fid) (name : List ℕ) (ver : ℕ) (to : List ℕ) (to_ver : ℕ) → (rename_outcome c dir name ver to to_ver).after.opens ≡ c.opens
  unfolding rename_outcome
  rename_kept dir name ver to to_ver = in_kept (live c dir) _ (λ d. entry_kept (entry_of (versions name d.entries) ver) _ (λ e. unless_kept (rename_refusal c d to to_ver) _ refl))

  write_kept : (node chan vbn : ℕ) (text : List ℕ) → (write_outcome c node chan vbn text).after.opens ≡ c.opens
  unfolding write_outcome
  write_kept node chan vbn text = by_open (channel_at c node chan) where
    by_file : (n : ℕ) (f : Option File) → (write_of c n f vbn text).after.opens ≡ c.opens
    by_file n None = refl
    by_file n (Some f) = if_kept c.opens _ _ _ refl refl

    by_open : (p : Option Open) → (write_open c p vbn text).after.opens ≡ c.opens
    by_open None = refl
    by_open (Some p) = if_kept c.opens _ _ _ refl (by_file p.file (file_at c p.file))

  quota_kept : (owner : Uic) (quota over : ℕ) → (quota_set_outcome c owner quota over).after.opens ≡ c.opens
  unfolding quota_set_outcome
  quota_kept owner quota over = by_row (row_of owner c.quota) where
    by_row : (r : Option QuotaRow) → (quota_set_of c r owner quota over).after.opens ≡ c.opens
    by_row None = if_kept c.opens _ _ _ refl refl
    by_row (Some r) = refl

  -- ---- stages

  making_kept : (n : ℕ) (f : File) (o : Outcome) (s : Stage) (d : Cat) → o.after.opens ≡ c.opens → making_stage c n f o s ≡ Some d → d.opens ≡ c.opens
  making_kept n f o stage.Charged d p e = some_kept c.opens _ d refl e
  making_kept n f o stage.Lost d p e = some_kept c.opens _ d refl e
  making_kept n f o stage.Done d p e = some_kept c.opens _ d p e
  making_kept n f o _ d p e = none_kept c.opens d e

  unnaming_kept : (dir : ℕ) (x : File) (e : DirEnt) (f : Option File) (o : Outcome) (s : Stage) (d : Cat) → o.after.opens ≡ c.opens → entry_stage c dir x e f o s ≡ Some d → d.opens ≡ c.opens
  unnaming_kept dir x e (Some f) o stage.Marked d p h = only_kept c.opens _ _ d refl h
  unnaming_kept dir x e (Some f) o stage.Unlinked d p h = some_kept c.opens _ d refl h
  unnaming_kept dir x e (Some f) o stage.Freed d p h = only_kept c.opens _ _ d refl h
  unnaming_kept dir x e (Some f) o stage.Done d p h = only_kept c.opens _ _ d p h
  unnaming_kept dir x e None o stage.Done d p h = some_kept c.opens _ d p h
  unnaming_kept dir x e _ o _ d p h = none_kept c.opens d h

  renaming_kept : (dir : ℕ) (x : File) (e : DirEnt) (to : List ℕ) (ver : ℕ) (o : Outcome) (s : Stage) (d : Cat) → o.after.opens ≡ c.opens → renaming_stage c dir x e to ver o s ≡ Some d → d.opens ≡ c.opens
  renaming_kept dir x e to ver o stage.Both d p h = some_kept c.opens _ d refl h
  renaming_kept dir x e to ver o stage.Done d p h = some_kept c.opens _ d p h
  renaming_kept dir x e to ver o _ d p h = none_kept c.opens d h

  writing_kept : (n : ℕ) (f : File) (vbn : ℕ) (text : List ℕ) (o : Outcome) (s : Stage) (d : Cat) → o.after.opens ≡ c.opens → writing_stage c n f vbn text o s ≡ Some d → d.opens ≡ c.opens
  writing_kept n f vbn text o stage.DataOnly d p h = only_kept c.opens _ _ d refl h
  writing_kept n f vbn text o stage.Done d p h = some_kept c.opens _ d p h
  writing_kept n f vbn text o _ d p h = none_kept c.opens d h

  extending_kept : (f : Option File) (blocks : ℕ) (o : Outcome) (s : Stage) (d : Cat) → o.after.opens ≡ c.opens → extend_stage c f blocks o s ≡ Some d → d.opens ≡ c.opens
  unfolding extend_stage
  extending_kept (Some f) blocks o stage.Charged d p h = some_kept c.opens _ d refl h
  extending_kept (Some f) blocks o stage.Done d p h = some_kept c.opens _ d p h
  extending_kept _ blocks o _ d p h = none_kept c.opens d h

  cutting_kept : (n : ℕ) (f : Option File) (blocks : ℕ) (o : Outcome) (s : Stage) (d : Cat) → o.after.opens ≡ c.opens → trunc_stage c n f blocks o s ≡ Some d → d.opens ≡ c.opens
  unfolding trunc_stage
  cutting_kept n (Some f) blocks o stage.Shortened d p h = only_kept c.opens _ _ d refl h
  cutting_kept n (Some f) blocks o stage.Done d p h = only_kept c.opens _ _ d p h
  cutting_kept n _ blocks o _ d p h = none_kept c.opens d h

  setting_kept : (o : Outcome) (s : Stage) (d : Cat) → o.after.opens ≡ c.opens → quota_stage o s ≡ Some d → d.opens ≡ c.opens
  setting_kept o stage.Done d p h = some_kept c.opens _ d p h
  setting_kept o _ d p h = none_kept c.opens d h

-- CLOSE leaves the channels, but that its own has nothing open
closed_kept : (c : Cat) (n : ℕ) (f : Option File) → (closed c n f).after.opens ≡ c.opens
closed_kept c n None = refl
closed_kept c n (Some f) = if_kept c.opens _ _ _ refl refl

closing_kept : (c : Cat) (n : ℕ) (f : File) (o : Outcome) (s : Stage) (d : Cat) → o.after.opens ≡ c.opens → closing_stage c n f o s ≡ Some d → d.opens ≡ c.opens
closing_kept c n f o stage.Freed d p h = only_kept c.opens _ _ d refl h
closing_kept c n f o stage.Done d p h = only_kept c.opens _ _ d p h
closing_kept c n f o _ d p h = none_kept c.opens d h

closes_kept : (c : Cat) (node chan : ℕ) (p : Option Open) (s : Stage) (d : Cat) → option_and_then (λ (q : Open). option_and_then (λ (f : File). closing_stage (with_channel c node chan None) q.file f (close_of c node chan p) s) (file_at c q.file)) p ≡ Some d
    → d.opens ≡ slice_set c.opens (place node chan) None
closes_kept c node chan None s d e = none_kept (slice_set c.opens (place node chan) None) d e
closes_kept c node chan (Some q) s d e =
    let after : Cat = with_channel c node chan None in
    then_kept after.opens (λ (f : File). closing_stage after q.file f (close_of c node chan (Some q)) s) (file_at c q.file) d
    (λ f h. closing_kept after q.file f (close_of c node chan (Some q)) s d (closed_kept after q.file (file_at c q.file)) h) e

command_kept : (c d : Cat) (n : ℕ) (x : Cmd) (new : Option ℕ) (s : Stage) → command_stage c n x new (outcome c n x new) s ≡ Some d → KeepsOpens c n (Some x) d
unfolding command_stage outcome create_stage mkdir_stage delete_stage rename_stage close_stage close_outcome write_stage
command_kept c d n (cmd.Lookup reg dir name ver) new s e = inl (none_kept c.opens d e)
command_kept c d n (cmd.List dir) new s e = inl (none_kept c.opens d e)
command_kept c d n (cmd.Stat file) new s e = inl (none_kept c.opens d e)
command_kept c d n (cmd.Create reg dir name ver blocks owner) None s e = inl (none_kept c.opens d e)
command_kept c d n (cmd.Create reg dir name ver blocks owner) (Some k) s e = inl (making_kept c k _ (create_outcome c dir name ver blocks owner (Some k)) s d (create_kept c dir name ver blocks owner (Some k)) e)
command_kept c d n (cmd.MkDir reg dir name owner) None s e = inl (none_kept c.opens d e)
command_kept c d n (cmd.MkDir reg dir name owner) (Some k) s e = inl (making_kept c k _ (mkdir_outcome c dir name owner (Some k)) s d (mkdir_kept c dir name owner (Some k)) e)
command_kept c d n (cmd.Extend file blocks) new s e = inl (extending_kept c (live c file) blocks (extend_outcome c file blocks new) s d (extend_kept c file blocks new) e)
command_kept c d n (cmd.Trunc file blocks) new s e = inl (cutting_kept c file.num (live c file) blocks (trunc_outcome c file blocks) s d (trunc_kept c file blocks) e)
command_kept c d n (cmd.Delete dir name ver) new s e = inl (then_kept c.opens _ (live c dir) d
    (λ f h. then_kept c.opens _ (entry_of (versions name f.entries) ver) d (λ x k. unnaming_kept c dir.num f x (in_use c x.fid) (delete_outcome c dir name ver) s d (delete_kept c dir name ver) k) h) e)
command_kept c d n (cmd.Rename dir name ver to to_ver) new s e = inl (then_kept c.opens _ (live c dir) d
    (λ f h. then_kept c.opens _ (entry_of (versions name f.entries) ver) d (λ x k. renaming_kept c dir.num f x to _ (rename_outcome c dir name ver to to_ver) s d (rename_kept c dir name ver to to_ver) k) h) e)
command_kept c d n (cmd.OpenFile chan file mode) new s e = inl (none_kept c.opens d e)
command_kept c d n (cmd.CloseFile chan) new s e = inr (chan, refl, closes_kept c n chan (channel_at c n chan) s d e)
command_kept c d n (cmd.ReadBlock chan vbn) new s e = inl (none_kept c.opens d e)
command_kept c d n (cmd.WriteBlock chan vbn text) new s e = inl (then_kept c.opens _ (channel_at c n chan) d
    (λ p h. then_kept c.opens _ (file_at c p.file) d (λ f k. writing_kept c p.file f vbn text (write_outcome c n chan vbn text) s d (write_kept c n chan vbn text) k) h) e)
command_kept c d n (cmd.QuotaSet owner quota over) new s e = inl (setting_kept c (quota_set_outcome c owner quota over) s d (quota_kept c owner quota over) e)
command_kept c d n (cmd.QuotaShow owner) new s e = inl (none_kept c.opens d e)

shown_kept : (c d : Cat) (n : ℕ) (x : Option Cmd) (new : Option ℕ) (s : Stage) → shown_stage c n x new s ≡ Some d → KeepsOpens c n x d
shown_kept c d n None new s e = inl (none_kept c.opens d e)
shown_kept c d n (Some x) new s e = by_refusal (is_refusal (outcome c n x new).reply) refl e where
  by_refusal : (b : Bool) → is_refusal (outcome c n x new).reply ≡ b → cond b None (command_stage c n x new (outcome c n x new) s) ≡ Some d → KeepsOpens c n (Some x) d
  by_refusal true h f = inl (none_kept c.opens d f)
  by_refusal false h f = command_kept c d n x new s f

stage_kept : (c d : Cat) (n : ℕ) (x : Option Cmd) (new : Option ℕ) (s : Stage) → staged c n x s new ≡ Some d → KeepsOpens c n x d
unfolding staged
stage_kept c d n x new stage.Idle e = inl (some_kept c.opens c d refl e)
stage_kept c d n None new stage.Nothing e = inl (none_kept c.opens d e)
stage_kept c d n (Some y) new stage.Nothing e = inl (some_kept c.opens c d refl e)
stage_kept c d n x new s e = shown_kept c d n x new s e

pub stages_keep_opens : StagesKeepOpens
stages_keep_opens c d n x s (new, pick, e) = stage_kept c d n x new s e
