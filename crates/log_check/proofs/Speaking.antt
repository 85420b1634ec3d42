-- The words of a node and its command are read as these.
use Rattle.std.proofs.Common.{◌≡◌, ◌∙◌, ◌<◌, ◌&&◌, ℕ, Bool, true, false, cond, List, Option, Some, None, refl, sym, ap, subst, arith, inl, inr}
use Rattle.std.specs.Prelude.{IfSome}
use Rattle.std.proofs.lemmas.Bool.{and_from}
use Rattle.base_words.specs.Names.{is_character}
use Rattle.plain_cat.specs.declared.command.Cmd.{Cmd}
use Rattle.plain_cat.specs.declared.command.Cmd.TheVariants as cmd
use Rattle.plain_cat.specs.declared.script.Line.{Line}
use Rattle.plain_cat.specs.InForm.{is_eighth, in_form}
use Rattle.plain_texts.specs.Commands.{command_text}
use Rattle.run_script.specs.Lines.{words_of}
use Rattle.run_script.specs.Grammar.{IsNodeCommand}
use Rattle.run_script.specs.Steps.{line_of}
use Rattle.run_script.specs.Fixed.{fixed_line, node_text, has_sequence}
use Rattle.run_script.specs.declared.items.Item.TheVariants.{Skipped, Command}
use Rattle.run_script.proofs.Pieces.{Lacks, limits}
use Rattle.run_script.proofs.Commanded.{line-back}
use Rattle.run_script.proofs.ReadBack.{reads_back_text}
use Rattle.log_check.specs.declared.commands.Given.{Given}
use Rattle.log_check.specs.Commands.{unfixed, IsSpeaking, given, given_by, given_of, ReadsCommand}
use Rattle.log_check.proofs.Plain.{plain_command}

no_equals : is_character 61 ≡ false
unfolding is_character
no_equals = refl

pub command_whole : (c : Cmd) → in_form c ≡ true → has_sequence c ≡ true → Lacks 61 (command_text c)
command_whole c form seq = plain_command 61 refl (inr (omega arith)) no_equals refl refl c form seq

pub node_small : (node : ℕ) → is_eighth node ≡ true → node < 10
node_small node h = let l = limits 1 8 node h in omega (arith, l)

abbrev pub the_line : ℕ → Cmd → Line
the_line node c = record { node = node; cmd = fixed_line c }

-- the words of a node and its command say it, as a line of a script
spoken : (node : ℕ) (c : Cmd) → IsSpeaking node c → IsNodeCommand (the_line node c) (words_of (node_text node c))
spoken node c s = elim (reads_back_text node c s.node_is s.form s.sequence).spelt [
  | inl skipped ↦ absurd (let other : Command (the_line node c) ≡ Skipped = skipped.1 in cc)
  | inr says ↦ says.1
]

unfixed-fixed : (c : Cmd) → unfixed (fixed_line c) ≡ Some c
unfixed-fixed (cmd.Lookup x0 x1 x2 x3) = refl
unfixed-fixed (cmd.List x0) = refl
unfixed-fixed (cmd.Stat x0) = refl
unfixed-fixed (cmd.Create x0 x1 x2 x3 x4 x5) = refl
unfixed-fixed (cmd.MkDir x0 x1 x2 x3) = refl
unfixed-fixed (cmd.Extend x0 x1) = refl
unfixed-fixed (cmd.Trunc x0 x1) = refl
unfixed-fixed (cmd.Delete x0 x1 x2) = refl
unfixed-fixed (cmd.Rename x0 x1 x2 x3 x4) = refl
unfixed-fixed (cmd.OpenFile x0 x1 x2) = refl
unfixed-fixed (cmd.CloseFile x0) = refl
unfixed-fixed (cmd.ReadBlock x0 x1) = refl
unfixed-fixed (cmd.WriteBlock x0 x1 x2) = refl
unfixed-fixed (cmd.QuotaSet x0 x1 x2) = refl
unfixed-fixed (cmd.QuotaShow x0) = refl

pub given-line : (node : ℕ) (c : Cmd) → IsSpeaking node c → given_of (the_line node c) ≡ Some (given node c)
unfolding given_of
given-line node c s =
    ap (given_by node) (unfixed-fixed c)
    ∙ ap (λ t. cond t (Some (given node c)) None) (and_from (in_form c) (has_sequence c && is_eighth node) s.form (and_from (has_sequence c) (is_eighth node) s.sequence s.node_is))

pub given-form : (l : Line) (g : Given) → given_of l ≡ Some g → IsSpeaking g.node g.cmd
unfolding given_of
given-form l g h = by (unfixed l.cmd) h
  where
    by_tests : (c : Cmd) (a b d : Bool) → in_form c ≡ a → has_sequence c ≡ b → is_eighth l.node ≡ d → cond (a && (b && d)) (Some (given l.node c)) None ≡ Some g → IsSpeaking g.node g.cmd
    by_tests c true true true e f k h =
        let same : given l.node c ≡ g = cc in
        let P : Given → Type 0 = λ g. IsSpeaking g.node g.cmd in
        subst P same (record { node_is = k; form = e; sequence = f })
    by_tests c true true false e f k h = absurd (let no : ⊥ = cc in no)
    by_tests c true false d e f k h = absurd (let no : ⊥ = cc in no)
    by_tests c false b d e f k h = absurd (let no : ⊥ = cc in no)

    by : (o : Option Cmd) → given_by l.node o ≡ Some g → IsSpeaking g.node g.cmd
    by None h = absurd (let no : ⊥ = cc in no)
    by (Some c) h = by_tests c (in_form c) (has_sequence c) (is_eighth l.node) refl refl refl h

-- words that are read as this are read as each node and command whose words they are
said_as : (words : List ℕ) (o : Option Line) → ((l : Line) → IsNodeCommand l (words_of words) → o ≡ Some l) → (node : ℕ) (c : Cmd) → IsSpeaking node c → words ≡ node_text node c → o ≡ Some (the_line node c)
said_as words o h node c s e = h (the_line node c) (subst (λ w. IsNodeCommand (the_line node c) (words_of w)) (sym e) (spoken node c s))

pub unsaid_reads : (words : List ℕ) (o : Option Line) → ((l : Line) → IsNodeCommand l (words_of words) → o ≡ Some l) → o ≡ None → ReadsCommand words None
unsaid_reads words o h none node c s e =
    let both : ◌≡◌ {A = Option Line} None (Some (the_line node c)) = sym none ∙ said_as words o h node c s e in absurd (let no : ⊥ = cc in no)

pub said_reads : (words : List ℕ) (o : Option Line) (l : Line) (read : Option Given) → ((m : Line) → IsNodeCommand m (words_of words) → o ≡ Some m) → o ≡ Some l → read ≡ given_of l → ReadsCommand words read
said_reads words o l read h is e node c s w =
    let both : Some l ≡ Some (the_line node c) = sym is ∙ said_as words o h node c s w in
    let same : l ≡ the_line node c = cc in
    e ∙ ap given_of same ∙ given-line node c s

pub given_speaks : (l : Line) (read : Option Given) → read ≡ given_of l → IfSome read (λ g. IsSpeaking g.node g.cmd)
given_speaks l None e = tt
given_speaks l (Some g) e = given-form l g (sym e)

-- how words are read
pub record Reading (words : List ℕ) : Type 0 where
  pub read : Option Given
  pub reads : ReadsCommand words read
  pub form : IfSome read (λ g. IsSpeaking g.node g.cmd)

pub reading : (words : List ℕ) → Reading words
reading words = by (line_of (words_of words)) refl
  where
    by : (o : Option Line) → line_of (words_of words) ≡ o → Reading words
    by None e = record { read = None; reads = unsaid_reads words None (λ l s. sym e ∙ line-back l (words_of words) s) refl; form = tt }
    by (Some l) e = record {
      read = given_of l;
      reads = said_reads words (Some l) l (given_of l) (λ m s. sym e ∙ line-back m (words_of words) s) refl refl;
      form = given_speaks l (given_of l) refl;
    }
