-- Everything that the grammar is made of, opened, so that a reading computes.
use Rattle.eb_syntax.specs.Tree as tree_
use Rattle.eb_grammar.specs.Peg as peg_
use Rattle.eb_grammar.specs.Names as names_
use Rattle.eb_grammar.specs.Params as params_
use Rattle.eb_grammar.specs.Words as words_
use Rattle.eb_grammar.specs.ArithText as arithtext_
use Rattle.eb_grammar.specs.AnsiText as ansitext_
use Rattle.eb_grammar.specs.HereDocuments as heredocuments_
use Rattle.eb_grammar.specs.Redirections as redirections_
use Rattle.eb_grammar.specs.Conditions as conditions_
use Rattle.eb_grammar.specs.Compounds as compounds_
use Rattle.eb_grammar.specs.Fill as fill_
use Rattle.eb_grammar.specs.Commands as commands_
use Rattle.eb_grammar.specs.Grammar as grammar_

unfoldable pub grammar : Unit {0}
unfolding peg_.gather_from peg_.taken peg_.sees peg_.word_of peg_.first peg_.byte_in peg_.run_in peg_.end peg_.nest peg_.within names_.blank names_.blanks names_.some_blanks names_.comment names_.word_end names_.keyword names_.reserved names_.closer names_.name names_.function_name names_.digits names_.lone params_.subscript_part params_.brackets params_.subscript params_.named_ref params_.ref params_.text_piece params_.quoted_text_piece params_.value_op params_.strip_op params_.replace_op params_.case_op params_.value_change params_.strip_change params_.replacement params_.replace_change params_.case_change params_.backslash params_.slice_piece params_.slice_part params_.slice params_.change params_.length_param params_.names_param params_.indirect_param params_.value_param params_.param words_.continuation words_.escaped words_.single_quoted words_.ansi_part words_.ansi_quoted words_.back_part words_.backquotes words_.backquoted words_.arith_dollar words_.substitution words_.dollar words_.quotes words_.double_quoted words_.quoted_piece words_.double words_.process_start words_.process words_.group_start words_.group_part words_.group words_.plain tree_.word_of_pieces words_.piece words_.word arithtext_.parentheses arithtext_.arith_piece arithtext_.arith arithtext_.arith_part ansitext_.ansi_text ansitext_.has_refused_escape heredocuments_.unquoted_quoted_piece heredocuments_.unquoted_quotes heredocuments_.unquoted_double heredocuments_.unquoted_group_part heredocuments_.unquoted_group heredocuments_.unquoted_piece heredocuments_.delimiter_word heredocuments_.here_line heredocuments_.last_line heredocuments_.body_line heredocuments_.here_text heredocuments_.here_piece heredocuments_.here_body heredocuments_.here_bodies heredocuments_.newline heredocuments_.lines redirections_.word_op redirections_.here_op redirections_.file_op redirections_.both_op redirections_.word_redir redirections_.here_redir redirections_.file_redir redirections_.both_redir redirections_.redir redirections_.array redirections_.assigned redirections_.assign conditions_.in_regex conditions_.regex_group conditions_.regex_part conditions_.regex conditions_.binary_word conditions_.binary_op conditions_.unary_op conditions_.condition_group conditions_.negation conditions_.condition_word conditions_.unary_test conditions_.matches conditions_.compared conditions_.word_test conditions_.prim conditions_.not conditions_.and conditions_.or compounds_.do_done compounds_.braces compounds_.arith_command compounds_.subshell compounds_.elif compounds_.if_command compounds_.while_loop compounds_.until_loop compounds_.arith_for compounds_.in_words compounds_.loop_over compounds_.for_loop compounds_.select_loop compounds_.clause_end compounds_.clause compounds_.case_command compounds_.test_command compounds_.compound_start compounds_.compound_forms compounds_.compound fill_.filled_redir fill_.filled_prefix fill_.filled_argument fill_.filled_part fill_.filled_tail fill_.filled_simple fill_.filled_decl fill_.filled_inner fill_.filled_command fill_.filled_item commands_.decl_name commands_.time_mark commands_.pipe_mark commands_.bar commands_.junction commands_.stop commands_.item_end commands_.own commands_.prefix commands_.tail_part commands_.tail commands_.prefixed commands_.simple commands_.argument commands_.decl commands_.compound_command commands_.named_function commands_.keyword_function commands_.function commands_.coproc commands_.command commands_.piped commands_.pipe commands_.joined commands_.and_or commands_.item commands_.turn commands_.items commands_.item_and_items commands_.body grammar_.inside grammar_.script grammar_.whole_ref
grammar = tt
